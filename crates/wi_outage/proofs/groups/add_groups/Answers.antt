use Rattle.std.proofs.Common.{arith}
use Rattle.wi_outage.proofs.Adding.{group_next, groups_done}
use Rattle.wi_outage.proofs.groups.add_groups.Goals as goal

pub loop-e-preserved : goal.loop-e-preserved
loop-e-preserved c = group_next c.args.net.now c.args.given.now c.loop-e.e _ _ _ c.loop-e.invariant c.in_ok-add_group.ensures

pub returns : goal.returns
returns c = groups_done c.args.net.now c.args.given.now c.loop-e.e _ _ (omega (arith, c.loop-e-test.false, c.counts-e-end.ensures.links)) c.loop-e.invariant
