-- What each outage is, and that bounds stay bounds.
use Rattle.std.proofs.Common.{◌≡◌, ◌<◌, Bool, true, false, ◌||◌, ◌==◌, List, [], ◌∷◌, length, map, get_or, refl, arith, ap, sym, ◌∙◌}
use Rattle.std.proofs.lemmas.Bool.{eq-eqb, ltb-true, or_left, or_right}
use Rattle.std.proofs.lemmas.List.Elements.{All-nil, All-cons, All-map, All-filter, All-head, All-tail, All-weaker, filter_passes}
use Rattle.std.specs.List.{All, filter, list_any}
use Rattle.wi_net.specs.declared.parts.LinkId.{LinkId}
use Rattle.wi_net.specs.declared.parts.RouterId.{RouterId}
use Rattle.wi_net.specs.declared.bounds.Bounds.{Bounds}
use Rattle.wi_net.specs.LinkSet.{has, is_apart}
use Rattle.wi_net.specs.Net.{Net, all_links, is_link, links_where, risk_of, same_risk, widened}
use Rattle.wi_net.specs.Network.{leaves}
use Rattle.wi_net.proofs.SetLemmas.{has-all_links, has_where, where_has, any_in, same_risk_self}
use Rattle.wi_world.specs.Moves.{AreBounds}
use Rattle.wi_outage.specs.declared.outage.Outage.{Outage}
use Rattle.wi_outage.specs.Outages.{is_spared, group_outage, group_outages, links_at, all_routers, is_linked, router_outage, router_outages, reaches, IsGroup, IsOutage}
use Rattle.wi_outage.specs.Survival.{with_down, with_up}
use Rattle.wi_outage.proofs.Unions.{apart_turned, apart_union, union_apart, widened_whole, union_whole}

-- ---- outages

some_in : (s : List LinkId) (e : LinkId) → has s e ≡ true → 0 < length s
some_in [] e h = cc
some_in (x ∷ s) e h = omega arith

-- a set with a link of the network is in what is widened
widened_some : (net : Net) (s : List LinkId) (e : LinkId) → is_link net e ≡ true → has s e ≡ true → 0 < length (widened net s)
widened_some net s e known h = some_in (widened net s) e (has_where net (λ x. list_any (λ d. same_risk net d x) s) e known (any_in (λ d. same_risk net d e) s e h (same_risk_self net e)))

-- of links that pass a test each is one of the network's
links_known : (net : Net) (p : LinkId → Bool) → All (λ e. is_link net e ≡ true) (links_where net p)
links_known net p = All-filter p (λ e. is_link net e ≡ true) (all_links net) (each (all_links net) (λ e h. sym (has-all_links net e) ∙ h))
  where
    each : (s : List LinkId) → ((e : LinkId) → has s e ≡ true → is_link net e ≡ true) → All (λ e. is_link net e ≡ true) s
    each [] known = All-nil (λ e. is_link net e ≡ true)
    each (x ∷ s) known =
        All-cons (λ e. is_link net e ≡ true) x s (known x (or_left (x.0 == x.0) (has s x) (eq-eqb x.0 x.0 refl)))
        (each s (λ e h. known e (or_right (x.0 == e.0) (has s e) h)))

-- what an outage is, before it is asked whether it is spared
abbrev IsWhole : Net → Outage → Type 0
IsWhole net outage = (widened net outage.links ≡ outage.links) × (0 < length outage.links)

spared_outages : (net : Net) (given : Bounds) (outages : List Outage) → All (IsWhole net) outages → All (λ outage. IsOutage net given outage.links) (filter (λ outage. is_spared given outage.links) outages)
spared_outages net given [] all = All-nil (λ outage. IsOutage net given outage.links)
spared_outages net given (x ∷ outages) all = go (is_spared given x.links) refl (spared_outages net given outages (All-tail (IsWhole net) x outages all))
  where
    go : (b : Bool) → is_spared given x.links ≡ b → All (λ outage. IsOutage net given outage.links) (filter (λ outage. is_spared given outage.links) outages) → All (λ outage. IsOutage net given outage.links) (filter (λ outage. is_spared given outage.links) (x ∷ outages))
    go false b rest = rw b rest
    go true b rest =
        let here = All-head (IsWhole net) x outages all in
        rw b (All-cons (λ outage. IsOutage net given outage.links) x _ (record { union = here.0; some = here.1; spared = b }) rest)

pub groups_are : (net : Net) (given : Bounds) → All (λ outage. IsOutage net given outage.links) (group_outages net given)
groups_are net given =
    spared_outages net given (map group_outage (map (λ e. widened net (e ∷ [])) firsts))
    (All-map (IsWhole net) group_outage (map (λ e. widened net (e ∷ [])) firsts)
    (All-map (λ links. IsWhole net (group_outage links)) (λ e. widened net (e ∷ [])) firsts
    (All-weaker (λ e. is_link net e ≡ true) (λ e. IsWhole net (group_outage (widened net (e ∷ [])))) (λ e known. (widened_whole net (e ∷ []), widened_some net (e ∷ []) e known (or_left (e.0 == e.0) false (eq-eqb e.0 e.0 refl)))) firsts (links_known net (λ e. (risk_of net e).0 == e.0)))))
  where
    firsts : List LinkId
    firsts = links_where net (λ e. (risk_of net e).0 == e.0)

pub groups_are_one : (net : Net) (given : Bounds) → All (λ outage. IsGroup net outage.links) (group_outages net given)
groups_are_one net given =
    All-filter (λ outage. is_spared given outage.links) (λ outage. IsGroup net outage.links) (map group_outage (map (λ e. widened net (e ∷ [])) firsts))
    (All-map (λ outage. IsGroup net outage.links) group_outage (map (λ e. widened net (e ∷ [])) firsts)
    (All-map (IsGroup net) (λ e. widened net (e ∷ [])) firsts (λ k d less. (get_or firsts k d, refl))))
  where
    firsts : List LinkId
    firsts = links_where net (λ e. (risk_of net e).0 == e.0)

-- a router that has a link has one of the network's
linked_some : (net : Net) (router : RouterId) → is_linked net router ≡ true → 0 < length (widened net (links_at net router))
linked_some net router linked = go (links_at net router) refl (ltb-true 0 (length (links_at net router)) linked)
  where
    go : (s : List LinkId) → links_at net router ≡ s → 0 < length s → 0 < length (widened net (links_at net router))
    go [] is some = absurd (omega arith)
    go (e ∷ s) is some =
        let here : has (links_at net router) e ≡ true = ap (λ t. has t e) is ∙ or_left (e.0 == e.0) (has s e) (eq-eqb e.0 e.0 refl) in
        widened_some net (links_at net router) e ((where_has net (λ x. leaves net router x || reaches net router x) e here).0) here

pub routers_are : (net : Net) (given : Bounds) → All (λ outage. IsOutage net given outage.links) (router_outages net given)
routers_are net given =
    spared_outages net given (map (router_outage net) (filter (is_linked net) (all_routers net)))
    (All-map (IsWhole net) (router_outage net) (filter (is_linked net) (all_routers net))
    (All-weaker (λ router. is_linked net router ≡ true) (λ router. IsWhole net (router_outage net router)) (λ router linked. (widened_whole net (links_at net router), linked_some net router linked)) (filter (is_linked net) (all_routers net)) (filter_passes (is_linked net) (all_routers net))))

-- ---- bounds

pub down_kept : (net : Net) (bounds : Bounds) (links : List LinkId) → AreBounds net bounds → widened net links ≡ links → is_apart links bounds.up ≡ true → AreBounds net (with_down bounds links)
down_kept net bounds links b u off = record {
  down = union_whole net bounds.down links b.down u;
  up = b.up;
  apart = union_apart bounds.down links bounds.up b.apart off;
}

pub up_kept : (net : Net) (bounds : Bounds) (kept : List LinkId) → AreBounds net bounds → widened net kept ≡ kept → is_apart kept bounds.down ≡ true → AreBounds net (with_up bounds kept)
up_kept net bounds kept b u off = record {
  down = b.down;
  up = union_whole net bounds.up kept b.up u;
  apart = apart_union bounds.down bounds.up kept b.apart (apart_turned kept bounds.down off);
}
