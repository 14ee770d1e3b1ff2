use Rattle.std.proofs.Common.{◌+◌, ◌<◌, length, get_or, take, Contains, refl, arith}
use Rattle.wi_nfa.proofs.Marking.{some_more, taken, all_taken}
use Rattle.wi_nfa.proofs.marks.mark.Goals as goal

pub loop-q-preserved : goal.loop-q-preserved
loop-q-preserved c =
    let room = c.requires c.loop-q.q-index 0 c.loop-q-test.true in
    let same = c.loop-q.invariant.len in
    let ok = c.loop-q.row.ok in
    let inside : get_or c.args.places.now c.loop-q.q-index 0 < length c.loop-q.row.items = omega arith in
    record {
      len = c.loop-q.invariant.len;
      marks = some_more c.args.row.now.items c.loop-q.row.items _ (get_or c.args.places.now c.loop-q.q-index 0)
          (λ q. Contains (take c.loop-q.q-index c.args.places.now) q) (λ q. Contains (take (c.loop-q.q-index + 1) c.args.places.now) q)
          inside refl (taken c.args.places.now c.loop-q.q-index c.loop-q-test.true) c.loop-q.invariant.marks;
    }

pub returns-clause-marks : goal.returns-clause-marks
returns-clause-marks c = all_taken _ _ c.args.places.now c.loop-q.q-index c.loop-q-test.false c.loop-q.invariant.marks
