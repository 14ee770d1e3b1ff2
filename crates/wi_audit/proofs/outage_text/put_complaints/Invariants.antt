use Rattle.std.proofs.Common.{◌≡◌, ◌++◌, drop}
use Rattle.wi_audit.specs.Outages.{complaints}
use Rattle.wi_audit.proofs.outage_text.put_complaints.Given as goal

abbrev pub invariant-loop-i : goal.invariant-loop-i
invariant-loop-i l = l.to.items ++ complaints (drop l.i l.policies) (drop l.i l.tried) ≡ l.initial.to.items ++ complaints l.policies l.tried
