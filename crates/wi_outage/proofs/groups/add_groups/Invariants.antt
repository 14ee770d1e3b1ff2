use Rattle.std.proofs.Common.{◌≡◌, ◌++◌}
use Rattle.wi_net.specs.LinkSet.{links_from}
use Rattle.wi_outage.specs.private.Making.{group_outages_of}
use Rattle.wi_outage.proofs.groups.add_groups.Given as goal

abbrev pub invariant-loop-e : goal.invariant-loop-e
invariant-loop-e l = l.outages.items ≡ l.initial.outages.items ++ group_outages_of l.net l.given (links_from 0 l.e)
