-- The links that leave routers, as they are gathered link by link.
use Rattle.std.specs.Prelude.{ℕ, List, [], map, slice_get, unwrap_or}
use Rattle.std.specs.List.{filter, range_with_len}
use Rattle.wi_net.specs.declared.parts.LinkId.{LinkId}
use Rattle.wi_net.specs.LinkSet.{links_from}
use Rattle.wi_net.specs.Net.{Net}
use Rattle.wi_net.specs.Network.{leaves}

-- what an index has for a number
abbrev pub exits_in : List (List LinkId) → ℕ → List LinkId
exits_in index r = unwrap_or (slice_get index r) []

-- of the first links those that leave each router, for so many routers
abbrev pub exits_among : Net → ℕ → ℕ → List (List LinkId)
exits_among net n routers = map (λ r. filter (leaves net (record { 0 = r })) (links_from 0 n)) (range_with_len 0 routers)
