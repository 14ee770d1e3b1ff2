use Rattle.std.proofs.Common.{arith}
use Rattle.std.proofs.lemmas.Grind.{common_steps}
use Rattle.wi_net.proofs.TableLemmas.{groups_more, members_more}
use Rattle.wi_net.proofs.table.groups_total.Goals as goal

pub loop-group-preserved : goal.loop-group-preserved
loop-group-preserved c = record {
  walk = groups_more c.args.builder.now.net c.args.router c.loop-group.members c.in_ok-members.members c.args.groups.now c.loop-group.group-index c.group-item.result c.as_slice.result.now _ c.loop-group-test.true c.group-item.is c.as_slice.ensures c.in_ok-members.ensures.answer c.loop-group.invariant.walk;
  total = members_more c.args.groups.now c.loop-group.group-index c.group-item.result c.as_slice.result.now c.args.so_far c.loop-group.members c.in_ok-members.members c.loop-group-test.true c.group-item.is c.as_slice.ensures c.loop-group.invariant.total c.in_ok-members.ensures.total;
  few = c.in_ok-members.ensures.few;
}

pub returns-clause-answer : goal.returns-clause-answer
returns-clause-answer c = grind (arith, common_steps)
