-- A network as a graph.
use Rattle.std.specs.Prelude.{List, length, map}
use Rattle.std.specs.List.{range_with_len}
use Rattle.wi_net.specs.declared.parts.LinkId.{LinkId}
use Rattle.wi_net.specs.Net.{Net, links_where}
use Rattle.wi_net.specs.Network.{leaves}

-- for each router the links that leave it
abbrev pub exits_of : Net → List (List LinkId)
exits_of net = map (λ r. links_where net (leaves net (record { 0 = r }))) (range_with_len 0 (length net.routers))
