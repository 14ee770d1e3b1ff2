use Rattle.std.proofs.Common.{◌≡◌}
use Rattle.wi_net.specs.Net.{risk_count, before}
use Rattle.wi_quantity.proofs.share.failures_before.Given as goal

abbrev pub invariant-loop-i : goal.invariant-loop-i
invariant-loop-i l = l.count ≡ risk_count l.net (before l.net l.groups l.i)
