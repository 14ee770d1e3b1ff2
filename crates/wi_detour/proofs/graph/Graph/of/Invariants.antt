use Rattle.std.proofs.Common.{◌≡◌, length}
use Rattle.wi_detour.specs.private.Exits.{exits_among}
use Rattle.wi_detour.proofs.graph.Graph.of.Given as goal

abbrev pub invariant-loop-number : goal.invariant-loop-number
invariant-loop-number l = l.exits.items ≡ exits_among l.net l.number (length l.net.routers)
