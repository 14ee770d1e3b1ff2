use Rattle.std.proofs.Common.{sym, arith}
use Rattle.wi_quantity.proofs.RiskLemmas.{before_first, before_few, groups_step}
use Rattle.wi_quantity.proofs.share.failures_before.Goals as goal

pub loop-i-init : goal.loop-i-init
loop-i-init c = sym (before_first c.args.net.now c.args.groups.now)

pub loop-i-preserved : goal.loop-i-preserved
loop-i-preserved c = groups_step c.args.net.now c.args.groups.now _ _ c.loop-i.i c.loop-i.count _ (omega arith) c.index-groups-i.is c.as_slice.ensures c.loop-i.invariant c.new_risks-count.ensures.value

pub returns-clause-few : goal.returns-clause-few
returns-clause-few c = rw c.loop-i.invariant (before_few c.args.net.now c.args.groups.now c.loop-i.i c.keeps.ensures)
