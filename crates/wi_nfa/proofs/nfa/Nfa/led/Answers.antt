use Rattle.std.proofs.Common.{◌<◌, Bool, Vec, vec_len, length, ap, sym, ◌∙◌, refl, arith}
use Rattle.std.specs.declared.alloc.Global.{Global}
use Rattle.wi_nfa.specs.Rows.{automaton_of}
use Rattle.wi_nfa.proofs.Reading.{row_read}
use Rattle.wi_nfa.proofs.Words.{adds_steps, row_room, states_are, led_more, led_same, led_all, is_false}
use Rattle.wi_nfa.proofs.nfa.Nfa.led.Goals as goal
use Rattle.wi_nfa.proofs.nfa.Nfa.led.Goals.{then-is_set, else-is_set}

pub mark_entered-requires : goal.mark_entered-requires
mark_entered-requires g c =
    let size = c.len-size.ensures in
    let below = c.loop-p-test.true in
    let ok = c.self.inside.after.ok in
    let inside : c.loop-p.p < length c.self.inside.after.items = omega arith in
    row_room g.A.Atom.set c.self.inside.after.items c.self.inside.ahead.items c.self.inside.accepting.items c.self.inside.atoms.items c.args.self.now c.self.view_is c.self.invariant
    c.loop-p.p (vec_len c.loop-p.led) c.as_slice-row.result.now
    (c.as_slice-row.ensures.value ∙ row_read c.self.inside.after.items (length c.self.inside.after.items) c.loop-p.p c.index.result.now refl inside c.index.ensures)
    (let len = c.loop-p.invariant.len in omega arith)

pub loop-p-preserved : goal.loop-p-preserved
loop-p-preserved g c =
    let size = c.len-size.ensures in
    let below = c.loop-p-test.true in
    let ok = c.self.inside.after.ok in
    let inside : c.loop-p.p < length c.self.inside.after.items = omega arith in
    elim c.if-is_set.branch [
      | then-is_set w ↦ record {
        len = (let e = ap (λ (v : Vec Bool Global). v.len) w.led-is in e ∙ w.mark_entered.ensures.len ∙ c.loop-p.invariant.len);
        led = led_more (automaton_of g.A.Atom.set c.args.self.now) c.args.marks.now c.args.symbol.0 c.loop-p.p c.loop-p.led.items _ (sym c.is_set.ensures ∙ w.if-is_set.true)
            (adds_steps g.A.Atom.set c.self.inside.after.items c.self.inside.ahead.items c.self.inside.accepting.items c.self.inside.atoms.items c.args.self.now c.self.view_is c.self.invariant
            c.loop-p.p c.args.symbol.0 w.as_slice-row.result.now w.as_slice.result.now _ _ w.mark_entered.new.marks.items
            (w.as_slice-row.ensures.value ∙ row_read c.self.inside.after.items (length c.self.inside.after.items) c.loop-p.p w.index.result.now refl inside w.index.ensures)
            w.as_slice.ensures.value (ap (λ (v : Vec Bool Global). v.items) w.led-is) w.mark_entered.ensures.marks)
            c.loop-p.invariant.led;
      }
      | else-is_set w ↦ record {
        len = (let e = ap (λ (v : Vec Bool Global). v.len) w.led-is in e ∙ c.loop-p.invariant.len);
        led = led_same (automaton_of g.A.Atom.set c.args.self.now) c.args.marks.now c.args.symbol.0 c.loop-p.p c.loop-p.led.items _
            (ap (λ (v : Vec Bool Global). v.items) w.led-is) (is_false _ _ c.is_set.ensures w.if-is_set.false) c.loop-p.invariant.led;
      }
    ]

pub returns-clause-led : goal.returns-clause-led
returns-clause-led g c =
    led_all (automaton_of g.A.Atom.set c.args.self.now) c.args.marks.now c.loop-p.led.items c.loop-p.p c.args.symbol.0
    (let size = c.len-size.ensures in let over = c.loop-p-test.false in let upto = c.loop-p.auto.p-end in let ok = c.self.inside.after.ok in
    let same = states_are g.A.Atom.set c.self.inside.after.items c.self.inside.ahead.items c.self.inside.accepting.items c.self.inside.atoms.items c.args.self.now c.self.view_is c.self.invariant in omega arith)
    c.loop-p.invariant.led
