-- Outages: the links that are down at once when a risk group, or a router, is taken out.
use Rattle.std.specs.Prelude.{◌≡◌, ℕ, ◌<◌, Bool, true, false, ◌&&◌, ◌||◌, ◌==◌, nat_lt, List, [], ◌∷◌, length, map, slice_get, Some, None}
use Rattle.std.specs.List.{filter, range_with_len}
use Rattle.std.specs.Option.{option_map_or}
use Rattle.wi_net.specs.declared.parts.RouterId.{RouterId}
use Rattle.wi_net.specs.declared.parts.LinkId.{LinkId}
use Rattle.wi_net.specs.declared.bounds.Bounds.{Bounds}
use Rattle.wi_net.specs.LinkSet.{is_apart}
use Rattle.wi_net.specs.Net.{Net, links_where, risk_of, widened}
use Rattle.wi_net.specs.Network.{leaves}
use Rattle.wi_outage.specs.declared.outage.Outage.{Outage}

-- no link of them is given as down or up
abbrev pub is_spared : Bounds → List LinkId → Bool
is_spared given links = is_apart links given.down && is_apart links given.up

-- the outages of which no link is given as down or up
abbrev pub spared : Bounds → List Outage → List Outage
spared given outages = filter (λ outage. is_spared given outage.links) outages

-- the risk groups, by their least links
abbrev pub risk_groups : Net → List (List LinkId)
risk_groups net = map (λ e. widened net (e ∷ [])) (links_where net (λ e. (risk_of net e).0 == e.0))

-- the outage of a risk group
abbrev pub group_outage : List LinkId → Outage
group_outage links = record { router = None; links = links }

-- the outages of the risk groups, in the order of their least links
abbrev pub group_outages : Net → Bounds → List Outage
group_outages net given = spared given (map group_outage (risk_groups net))

-- a link reaches a router
abbrev pub reaches : Net → RouterId → LinkId → Bool
reaches net router e = option_map_or (λ l. l.to.0 == router.0) (slice_get net.links e.0) false

-- the links that leave or reach a router
abbrev pub links_at : Net → RouterId → List LinkId
links_at net router = links_where net (λ e. leaves net router e || reaches net router e)

-- the first so many routers, and all of a network
abbrev pub first_routers : ℕ → List RouterId
first_routers n = map (λ i. record { 0 = i }) (range_with_len 0 n)

abbrev pub all_routers : Net → List RouterId
all_routers net = first_routers (length net.routers)

-- a router has a link
abbrev pub is_linked : Net → RouterId → Bool
is_linked net router = nat_lt 0 (length (links_at net router))

-- the outage of a router: the least union of risk groups around its links
abbrev pub router_outage : Net → RouterId → Outage
router_outage net router = record { router = Some router; links = widened net (links_at net router) }

-- the outages of the routers that have links, in the order of their numbers
abbrev pub router_outages : Net → Bounds → List Outage
router_outages net given = spared given (map (router_outage net) (filter (is_linked net) (all_routers net)))

-- what each outage is: at least one link, in whole risk groups, and none that is given as down or up
pub record IsOutage (net : Net) (given : Bounds) (links : List LinkId) : Type 0 where
  pub union : widened net links ≡ links
  pub some : 0 < length links
  pub spared : is_spared given links ≡ true

-- links are the risk group of a link
abbrev pub IsGroup : Net → List LinkId → Type 0
IsGroup net links = (d : LinkId) × (links ≡ widened net (d ∷ []))
