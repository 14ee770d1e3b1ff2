use Rattle.std.proofs.Common.{◌≡◌, ◌∷◌, drop}
use Rattle.wi_audit.specs.Outcomes.{worst}
use Rattle.wi_audit.specs.Outages.{fulfilments}
use Rattle.wi_audit.proofs.outage_text.worst_of.Given as goal

abbrev pub invariant-loop-i : goal.invariant-loop-i
invariant-loop-i l = worst (l.worst ∷ fulfilments (drop l.i l.policies) (drop l.i l.tried)) ≡ worst (fulfilments l.policies l.tried)
