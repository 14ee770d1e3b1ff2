use Rattle.std.proofs.Common.{◌≡◌, IsTrue, length, arith}
use Rattle.wi_nfa.specs.private.Marks.{marked}
use Rattle.wi_nfa.proofs.Listing.{passed_rise, row_pushed, rows_all, row_within, column_within}
use Rattle.wi_nfa.proofs.tables.rows_of.Goals as goal

pub loop-p-preserved : goal.loop-p-preserved
loop-p-preserved c =
    let ok = c.loop-p.rows.ok in
    let len = c.loop-p.invariant.len in
    let count : length c.loop-p.rows.items ≡ c.loop-p.p = omega arith in
    record {
      len = (let more = c.in_ok-push.ensures.len in omega arith);
      rows = row_pushed c.loop-p.rows.items _ c.in_ok-listed.field-0 c.loop-p.p (λ k t. IsTrue (marked c.args.marks.now k t)) c.in_ok-push.ensures.items count c.loop-p.invariant.rows
          (passed_rise (λ t. marked c.args.marks.now c.loop-p.p t) (length c.args.marks.now) c.in_ok-listed.field-0.items c.in_ok-listed.ensures (λ t h. column_within c.args.marks.now _ c.loop-p.p t c.requires.square h));
    }

pub returns-clause-rows : goal.returns-clause-rows
returns-clause-rows c =
    let ok = c.loop-p.rows.ok in
    let len = c.loop-p.invariant.len in
    let count : length c.loop-p.rows.items ≡ c.loop-p.p = omega arith in
    rows_all c.loop-p.rows.items (length c.args.marks.now) c.loop-p.p (λ k t. IsTrue (marked c.args.marks.now k t)) count c.loop-p-test.false (λ p t h. row_within c.args.marks.now p t h) c.loop-p.invariant.rows
