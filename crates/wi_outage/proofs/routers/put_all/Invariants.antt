use Rattle.std.proofs.Common.{◌≡◌}
use Rattle.wi_outage.proofs.Gathering.{gathered}
use Rattle.wi_outage.proofs.routers.put_all.Given as goal

abbrev pub invariant-loop-e : goal.invariant-loop-e
invariant-loop-e l = l.index.items ≡ gathered l.net l.e
