-- What a plan is over a network: paths, and ways around links.
use Rattle.std.specs.Prelude.{◌≡◌, ◌&&◌, ◌==◌, Bool, true, false, not, nat_le, List, [], ◌∷◌, length, slice_get, Option, Some, None}
use Rattle.std.specs.List.{list_all, list_any}
use Rattle.std.specs.Option.{option_map_or}
use Rattle.wi_labels.specs.declared.label.Class.TheVariants.{Ip}
use Rattle.wi_labels.specs.declared.label.Label.{Label}
use Rattle.wi_net.specs.declared.parts.RouterId.{RouterId}
use Rattle.wi_net.specs.declared.parts.LinkId.{LinkId}
use Rattle.wi_net.specs.Net.{Net, is_link, label_known}
use Rattle.wi_net.specs.LinkSet.{has}
use Rattle.wi_net.specs.Network.{leaves}
use Rattle.wi_plan.specs.declared.plan.Path.{Path}
use Rattle.wi_plan.specs.declared.plan.Bypass.{Bypass}
use Rattle.wi_plan.specs.declared.plan.Plan.{Plan}

-- a link reaches a router
abbrev pub reaches : Net → RouterId → LinkId → Bool
reaches net router e = option_map_or (λ l. l.to.0 == router.0) (slice_get net.links e.0) false

-- the second link leaves the router that the first one reaches
abbrev pub meets : Net → LinkId → LinkId → Bool
meets net e f = option_map_or (λ l. leaves net l.to f) (slice_get net.links e.0) false

-- each link leaves the router that the one before it reaches
abbrev pub is_joined : Net → List LinkId → Bool
is_joined net [] = true
is_joined net (e ∷ []) = true
is_joined net (e ∷ f ∷ links) = meets net e f && is_joined net (f ∷ links)

-- no link stands twice
abbrev pub are_links_apart : List LinkId → Bool
are_links_apart [] = true
are_links_apart (e ∷ links) = not (has links e) && are_links_apart links

-- at least three links of the network, each joined to the next, none of them twice; and an ip label
abbrev pub is_path_of : Net → Path → Bool
is_path_of net path =
    label_known net.classes (path.ip, Ip)
    && (list_all (is_link net) path.links
    && (nat_le 3 (length path.links)
    && (is_joined net path.links
    && are_links_apart path.links)))

-- the first and the last of links
abbrev pub first_of : List LinkId → Option LinkId
first_of [] = None
first_of (e ∷ links) = Some e

abbrev pub last_of : List LinkId → Option LinkId
last_of [] = None
last_of (e ∷ []) = Some e
last_of (e ∷ f ∷ links) = last_of (f ∷ links)

-- links that lead from the source of a link to its target
abbrev pub is_around : Net → LinkId → List LinkId → Bool
is_around net e via =
    option_map_or (λ l.
    option_map_or (λ v. leaves net l.from v) (first_of via) false
    && option_map_or (λ v. reaches net l.to v) (last_of via) false)
    (slice_get net.links e.0) false

-- links of the network, each joined to the next, that lead around a link, which isn't one of them
abbrev pub is_bypass_of : Net → Bypass → Bool
is_bypass_of net bypass =
    is_link net bypass.link
    && (list_all (is_link net) bypass.via
    && (is_joined net bypass.via
    && (is_around net bypass.link bypass.via
    && not (has bypass.via bypass.link))))

-- a path's packets set out on this link with this label
abbrev pub sets_out : LinkId → Label → Path → Bool
sets_out e ip path = (ip.0 == path.ip.0) && option_map_or (λ f. e.0 == f.0) (first_of path.links) false

-- no two paths have one first link and one label
abbrev pub are_paths_apart : List Path → Bool
are_paths_apart [] = true
are_paths_apart (path ∷ paths) =
    option_map_or (λ e. not (list_any (sets_out e path.ip) paths)) (first_of path.links) true && are_paths_apart paths

-- no path's packets set out where this one ends
abbrev pub is_end : List Path → Path → Bool
is_end paths path = option_map_or (λ e. not (list_any (sets_out e path.ip) paths)) (last_of path.links) true

-- no two bypasses are of one link
abbrev pub are_bypasses_apart : List Bypass → Bool
are_bypasses_apart [] = true
are_bypasses_apart (bypass ∷ bypasses) =
    not (list_any (λ (other : Bypass). other.link.0 == bypass.link.0) bypasses) && are_bypasses_apart bypasses

-- a plan over a network that has no tables
pub record IsPlan (net : Net) (plan : Plan) : Type 0 where
  pub no_tables : net.rows ≡ []
  pub paths : list_all (is_path_of net) plan.paths ≡ true
  pub paths_apart : are_paths_apart plan.paths ≡ true
  pub bypasses : list_all (is_bypass_of net) plan.bypasses ≡ true
  pub bypasses_apart : are_bypasses_apart plan.bypasses ≡ true
  pub ends : list_all (is_end plan.paths) plan.paths ≡ true
