use Rattle.std.proofs.Common.{ℕ, ◌<◌, Bool, Vec, length, get_or, ap, sym, ◌∙◌, arith}
use Rattle.std.specs.declared.alloc.Global.{Global}
use Rattle.wi_nfa.specs.Rows.{reads_at}
use Rattle.wi_nfa.proofs.Marking.{some_more, some_same}
use Rattle.wi_nfa.proofs.Words.{entered, passed_by, whole_row, is_false}
use Rattle.wi_nfa.proofs.nfa.mark_entered.Goals as goal
use Rattle.wi_nfa.proofs.nfa.mark_entered.Goals.{then-enters, else-enters}

pub loop-q-preserved : goal.loop-q-preserved
loop-q-preserved g c =
    let reads : ℕ → Bool = λ q. reads_at g.A.Atom.set c.args.atoms.now q c.args.symbol.0 in
    let same = c.loop-q.invariant.len in
    let ok = c.loop-q.marks.ok in
    let room = c.requires c.loop-q.q-index 0 c.loop-q-test.true in
    let inside : get_or c.args.row.now c.loop-q.q-index 0 < length c.loop-q.marks.items = omega arith in
    elim c.if-enters.branch [
      | then-enters w ↦ record {
        len = (let e = ap (λ (v : Vec Bool Global). v.len) w.marks-is in e ∙ same);
        marks = some_more c.args.marks.now.items c.loop-q.marks.items _ (get_or c.args.row.now c.loop-q.q-index 0) _ _ inside (ap (λ (v : Vec Bool Global). v.items) w.marks-is)
            (entered reads c.args.row.now c.loop-q.q-index c.loop-q-test.true (sym c.enters.ensures ∙ w.if-enters.true)) c.loop-q.invariant.marks;
      }
      | else-enters w ↦ record {
        len = (let e = ap (λ (v : Vec Bool Global). v.len) w.marks-is in e ∙ same);
        marks = some_same c.args.marks.now.items c.loop-q.marks.items _ _ _ (ap (λ (v : Vec Bool Global). v.items) w.marks-is)
            (passed_by reads c.args.row.now c.loop-q.q-index c.loop-q-test.true (is_false _ _ c.enters.ensures w.if-enters.false)) c.loop-q.invariant.marks;
      }
    ]

pub returns-clause-marks : goal.returns-clause-marks
returns-clause-marks g c =
    whole_row (λ q. reads_at g.A.Atom.set c.args.atoms.now q c.args.symbol.0) c.args.marks.now.items c.loop-q.marks.items c.args.row.now c.loop-q.q-index c.loop-q-test.false c.loop-q.invariant.marks
