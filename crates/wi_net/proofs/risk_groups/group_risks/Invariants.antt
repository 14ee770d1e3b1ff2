use Rattle.std.proofs.Common.{◌≡◌, [], drop}
use Rattle.wi_net.specs.private.RiskGroups.{with_group_risks}
use Rattle.wi_net.proofs.risk_groups.group_risks.Given as goal

abbrev pub invariant-loop-group : goal.invariant-loop-group
invariant-loop-group l = with_group_risks l.links l.risks (drop l.group-index l.groups) ≡ with_group_risks l.links [] l.groups
