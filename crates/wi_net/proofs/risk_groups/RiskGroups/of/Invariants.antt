use Rattle.std.proofs.Common.{◌≡◌, length}
use Rattle.wi_net.proofs.IndexLemmas.{shared_among}
use Rattle.wi_net.proofs.risk_groups.RiskGroups.of.Given as goal

abbrev pub invariant-loop-i : goal.invariant-loop-i
invariant-loop-i l = l.groups.items ≡ shared_among l.links l.i (length l.links)
