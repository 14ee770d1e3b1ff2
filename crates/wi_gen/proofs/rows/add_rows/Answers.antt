-- From the rows of one kind to those of the next.
use Rattle.std.proofs.Common.{arith}
use Rattle.wi_gen.proofs.rows.add_rows.Goals as goal
use Rattle.wi_gen.proofs.RowLemmas.{lacks_as}
use Rattle.wi_gen.proofs.LeftLemmas.{no_middle, after_bypasses}

pub add_last_rows-requires : goal.add_last_rows-requires
add_last_rows-requires c =
    lacks_as c.args.ring.now _ _ _ c.loop-i.invariant
    (no_middle c.args.ring.now c.loop-i.i (omega (arith, c.loop-i-test.false, c.path-i-end.ensures)))

pub returns : goal.returns
returns c =
    lacks_as c.args.ring.now _ _ _ c.loop-i-2.invariant
    (after_bypasses c.args.ring.now c.loop-i-2.i (omega (arith, c.loop-i-2-test.false, c.path-i-end-2.ensures)))
