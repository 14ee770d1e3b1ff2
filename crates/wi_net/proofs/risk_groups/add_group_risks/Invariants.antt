use Rattle.std.proofs.Common.{◌≡◌, drop, map}
use Rattle.wi_net.specs.declared.parts.Member.{Member}
use Rattle.wi_net.specs.private.RiskGroups.{with_risks}
use Rattle.wi_net.proofs.risk_groups.add_group_risks.Given as goal

abbrev pub invariant-loop-m : goal.invariant-loop-m
invariant-loop-m l = with_risks l.links l.risks (map (λ (m : Member). m.link) (drop l.m-index l.group)) ≡ with_risks l.links l.initial.risks (map (λ (m : Member). m.link) l.group)
