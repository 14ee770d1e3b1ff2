-- Each outage of a network can be tried, and told of.
use Rattle.std.proofs.Common.{◌≡◌, ◌<◌, ℕ, Bool, true, false, not, ◌==◌, Result, Ok, Err, List, [], ◌∷◌, length, map, get_or, sym, subst, arith}
use Rattle.std.specs.List.{All, filter, list_all, list_any, range_with_len}
use Rattle.std.specs.Option.{IfSome}
use Rattle.std.specs.Prelude.{IfOk}
use Rattle.std.proofs.lemmas.List.Elements.{All-filter, All-map}
use Rattle.std.proofs.lemmas.Bool.{true≢false}
use Rattle.std.proofs.lemmas.List.FromFn.{get_or-range_with_len, length-range_with_len}
use Rattle.wi_base.specs.declared.no_memory.NoMemory.{NoMemory}
use Rattle.wi_net.specs.declared.parts.LinkId.{LinkId}
use Rattle.wi_net.specs.declared.parts.RouterId.{RouterId}
use Rattle.wi_net.specs.declared.bounds.Bounds.{Bounds}
use Rattle.wi_net.specs.Net.{Net, is_link, links_where, risk_of, same_risk, widened}
use Rattle.wi_script.proofs.PlayLemmas.{where_links}
use Rattle.wi_outage.specs.declared.outage.Outage.{Outage}
use Rattle.wi_outage.specs.Outages.{all_routers, group_outage, group_outages, is_linked, is_spared, router_outage, router_outages}
use Rattle.wi_outage.proofs.Keeping.{groups_are, groups_are_one, routers_are}
use Rattle.wi_audit.specs.private.Trials.{IsTrial}

-- whole risk groups are links of the network
whole_links : (net : Net) (links : List LinkId) → widened net links ≡ links → list_all (is_link net) links ≡ true
whole_links net links union = subst (λ (s : List LinkId). list_all (is_link net) s ≡ true) union (where_links net (λ e. list_any (λ d. same_risk net d e) links))

-- an outage's router is one of the network's
abbrev HasRouter : Net → Outage → Type 0
HasRouter net outage = IfSome outage.router (λ r. r.0 < length net.routers)

group_routers : (net : Net) (given : Bounds) → All (HasRouter net) (group_outages net given)
group_routers net given =
    All-filter (λ outage. is_spared given outage.links) (HasRouter net) (map group_outage groups) (All-map (HasRouter net) group_outage groups (λ k d less. tt))
  where
    groups : List (List LinkId)
    groups = map (λ e. widened net (e ∷ [])) (links_where net (λ e. (risk_of net e).0 == e.0))

each_router : (net : Net) → All (λ (r : RouterId). r.0 < length net.routers) (all_routers net)
each_router net =
    All-map (λ (r : RouterId). r.0 < length net.routers) (λ (i : ℕ). record { 0 = i }) (range_with_len 0 (length net.routers))
    (λ k d less. (let few : k < length net.routers = omega (arith, less, length-range_with_len 0 (length net.routers)) in let is = get_or-range_with_len 0 (length net.routers) k d few in omega (arith, few, is)))

router_routers : (net : Net) (given : Bounds) → All (HasRouter net) (router_outages net given)
router_routers net given =
    All-filter (λ outage. is_spared given outage.links) (HasRouter net) (map (router_outage net) linked)
    (All-map (HasRouter net) (router_outage net) linked (All-filter (is_linked net) (λ (r : RouterId). r.0 < length net.routers) (all_routers net) (each_router net)))
  where
    linked : List RouterId
    linked = filter (is_linked net) (all_routers net)

pub groups_tried : (net : Net) (given : Bounds) → All (IsTrial net true) (group_outages net given)
groups_tried net given k d less =
    let is = groups_are net given k d less in
    record {
      taken = record { union = is.union; group = λ single. groups_are_one net given k d less };
      shown = record { links = whole_links net (get_or (group_outages net given) k d).links is.union; router = group_routers net given k d less };
    }

pub routers_tried : (net : Net) (given : Bounds) → All (IsTrial net false) (router_outages net given)
routers_tried net given k d less =
    let is = routers_are net given k d less in
    record {
      taken = record { union = is.union; group = λ single. absurd (true≢false (sym single)) };
      shown = record { links = whole_links net (get_or (router_outages net given) k d).links is.union; router = router_routers net given k d less };
    }

-- so can those that were listed
pub tried_groups : (r : Result (List Outage) NoMemory) (net : Net) (given : Bounds) (routers : Bool) → routers ≡ false → IfOk r (λ outages. outages ≡ group_outages net given) → IfOk r (λ outages. All (IsTrial net (not routers)) outages)
tried_groups (Err e) net given routers without is = tt
tried_groups (Ok outages) net given routers without is = rw (without, is) (groups_tried net given)

pub tried_routers : (r : Result (List Outage) NoMemory) (net : Net) (given : Bounds) (routers : Bool) → routers ≡ true → IfOk r (λ outages. outages ≡ router_outages net given) → IfOk r (λ outages. All (IsTrial net (not routers)) outages)
tried_routers (Err e) net given routers with is = tt
tried_routers (Ok outages) net given routers with is = rw (with, is) (routers_tried net given)
