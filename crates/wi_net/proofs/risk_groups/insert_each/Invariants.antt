use Rattle.std.proofs.Common.{◌≡◌, drop}
use Rattle.wi_net.specs.RiskGroups.{union}
use Rattle.wi_net.proofs.risk_groups.insert_each.Given as goal

abbrev pub invariant-loop-link : goal.invariant-loop-link
invariant-loop-link l = union l.set (drop l.link-index l.links) ≡ union l.initial.set l.links
