use Rattle.std.proofs.Common.{◌≡◌, drop}
use Rattle.wi_net.specs.private.RiskGroups.{with_risks}
use Rattle.wi_net.proofs.risk_groups.add_risks.Given as goal

abbrev pub invariant-loop-e : goal.invariant-loop-e
invariant-loop-e l = with_risks l.links l.risks (drop l.e-index l.fails) ≡ with_risks l.links l.initial.risks l.fails
