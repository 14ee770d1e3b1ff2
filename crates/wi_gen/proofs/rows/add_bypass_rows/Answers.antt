-- From the first place on, and behind the last.
use Rattle.std.proofs.Common.{arith}
use Rattle.wi_gen.proofs.rows.add_bypass_rows.Goals as goal
use Rattle.wi_gen.proofs.RowLemmas.{lacks_as}
use Rattle.wi_gen.proofs.LeftLemmas.{first_place, last_place}

pub loop-d-init : goal.loop-d-init
loop-d-init c = lacks_as c.args.ring.now _ _ _ c.requires.left (first_place c.args.ring.now c.args.i c.requires.within)

pub returns : goal.returns
returns c =
    lacks_as c.args.ring.now _ _ _ c.loop-d.invariant
    (last_place c.args.ring.now c.args.i c.loop-d.d (omega (arith, c.loop-d-test.false, c.size-d-end.ensures)))
