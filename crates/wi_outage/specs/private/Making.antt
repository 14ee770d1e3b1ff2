-- Outages as they are added one after the other, and the links of each router as they are gathered.
use Rattle.std.specs.Prelude.{◌==◌, List, [], ◌∷◌, map, slice_get, slice_set, unwrap_or}
use Rattle.std.specs.List.{filter}
use Rattle.wi_net.specs.declared.parts.RouterId.{RouterId}
use Rattle.wi_net.specs.declared.parts.LinkId.{LinkId}
use Rattle.wi_net.specs.declared.bounds.Bounds.{Bounds}
use Rattle.wi_net.specs.LinkSet.{with_link}
use Rattle.wi_net.specs.Net.{Net, risk_of, widened}
use Rattle.wi_outage.specs.declared.outage.Outage.{Outage}
use Rattle.wi_outage.specs.Outages.{spared, group_outage, is_linked, router_outage}

-- the outages of the risk groups that some links name
abbrev pub group_outages_of : Net → Bounds → List LinkId → List Outage
group_outages_of net given links = spared given (map group_outage (map (λ e. widened net (e ∷ [])) (filter (λ e. (risk_of net e).0 == e.0) links)))

-- the outages of some routers
abbrev pub router_outages_of : Net → Bounds → List RouterId → List Outage
router_outages_of net given routers = spared given (map (router_outage net) (filter (is_linked net) routers))

-- the links that an index has for a router
abbrev pub listed_at : List (List LinkId) → RouterId → List LinkId
listed_at index router = unwrap_or (slice_get index router.0) []

-- an index with a link more for a router
abbrev pub with_link_at : List (List LinkId) → RouterId → LinkId → List (List LinkId)
with_link_at index router link = slice_set index router.0 (with_link (listed_at index router) link)
