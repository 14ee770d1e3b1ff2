use Rattle.std.proofs.Common.{◌≡◌, ◌++◌}
use Rattle.wi_outage.specs.Outages.{first_routers}
use Rattle.wi_outage.specs.private.Making.{router_outages_of}
use Rattle.wi_outage.proofs.routers.add_routers.Given as goal

abbrev pub invariant-loop-r : goal.invariant-loop-r
invariant-loop-r l = l.outages.items ≡ l.initial.outages.items ++ router_outages_of l.net l.given (first_routers l.r)
