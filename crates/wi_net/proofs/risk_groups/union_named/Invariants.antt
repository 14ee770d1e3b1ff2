use Rattle.std.proofs.Common.{◌≡◌, [], drop}
use Rattle.wi_net.specs.private.RiskGroups.{gathered}
use Rattle.wi_net.proofs.risk_groups.union_named.Given as goal

abbrev pub invariant-loop-risk : goal.invariant-loop-risk
invariant-loop-risk l = gathered l.groups l.set (drop l.risk-index l.risks) ≡ gathered l.groups [] l.risks
