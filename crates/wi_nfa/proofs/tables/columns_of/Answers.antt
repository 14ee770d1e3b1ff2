use Rattle.std.proofs.Common.{◌≡◌, IsTrue, length, arith}
use Rattle.wi_nfa.specs.private.Marks.{marked}
use Rattle.wi_nfa.proofs.Listing.{passed_rise, row_pushed, rows_all, row_within, column_within}
use Rattle.wi_nfa.proofs.tables.columns_of.Goals as goal

pub loop-q-preserved : goal.loop-q-preserved
loop-q-preserved c =
    let ok = c.loop-q.columns.ok in
    let len = c.loop-q.invariant.len in
    let count : length c.loop-q.columns.items ≡ c.loop-q.q = omega arith in
    record {
      len = (let more = c.in_ok-push.ensures.len in omega arith);
      rows = row_pushed c.loop-q.columns.items _ c.in_ok-listed_down.field-0 c.loop-q.q (λ k t. IsTrue (marked c.args.marks.now t k)) c.in_ok-push.ensures.items count c.loop-q.invariant.rows
          (passed_rise (λ t. marked c.args.marks.now t c.loop-q.q) (length c.args.marks.now) c.in_ok-listed_down.field-0.items c.in_ok-listed_down.ensures (λ t h. row_within c.args.marks.now t c.loop-q.q h));
    }

pub returns-clause-rows : goal.returns-clause-rows
returns-clause-rows c =
    let ok = c.loop-q.columns.ok in
    let len = c.loop-q.invariant.len in
    let count : length c.loop-q.columns.items ≡ c.loop-q.q = omega arith in
    rows_all c.loop-q.columns.items (length c.args.marks.now) c.loop-q.q (λ k t. IsTrue (marked c.args.marks.now t k)) count c.loop-q-test.false (λ q t h. column_within c.args.marks.now _ t q c.requires.square h) c.loop-q.invariant.rows
