-- Outages that are added one after the other.
use Rattle.std.proofs.Common.{◌≡◌, ℕ, ◌+◌, List, [], ◌∷◌, ◌++◌, length, arith, ap, sym, ◌∙◌, append_assoc}
use Rattle.std.proofs.lemmas.List.{map-append}
use Rattle.std.proofs.lemmas.List.Elements.{filter-append}
use Rattle.std.proofs.lemmas.List.FromFn.{map-range_with_len_more}
use Rattle.wi_net.specs.declared.parts.LinkId.{LinkId}
use Rattle.wi_net.specs.declared.parts.RouterId.{RouterId}
use Rattle.wi_net.specs.declared.bounds.Bounds.{Bounds}
use Rattle.wi_net.specs.LinkSet.{links_from}
use Rattle.wi_net.specs.Net.{Net, all_links}
use Rattle.wi_outage.specs.declared.outage.Outage.{Outage}
use Rattle.wi_outage.specs.Outages.{all_routers, first_routers}
use Rattle.wi_outage.specs.private.Making.{group_outages_of, router_outages_of}

-- what was added for the first so many, and for one more
module _ {X : Type 0} (outages : List X → List Outage) (join : (xs ys : List X) → outages (xs ++ ys) ≡ outages xs ++ outages ys) where
  added_next : (first more : List X) (x : X) (old items new : List Outage) → more ≡ first ++ x ∷ [] → items ≡ old ++ outages first → new ≡ items ++ outages (x ∷ []) → new ≡ old ++ outages more
  added_next first more x old items new next so_far one =
      one ∙ ap (λ t. t ++ outages (x ∷ [])) so_far ∙ append_assoc old (outages first) (outages (x ∷ []))
      ∙ ap (λ t. old ++ t) (sym (ap outages next ∙ join first (x ∷ [])))

-- of some and others the outages are those of both
groups_join : (net : Net) (given : Bounds) (xs ys : List LinkId) → group_outages_of net given (xs ++ ys) ≡ group_outages_of net given xs ++ group_outages_of net given ys
groups_join net given xs ys = simp (filter-append, map-append)

routers_join : (net : Net) (given : Bounds) (xs ys : List RouterId) → router_outages_of net given (xs ++ ys) ≡ router_outages_of net given xs ++ router_outages_of net given ys
routers_join net given xs ys = simp (filter-append, map-append)

pub group_next : (net : Net) (given : Bounds) (i : ℕ) (old items new : List Outage) → items ≡ old ++ group_outages_of net given (links_from 0 i) → new ≡ items ++ group_outages_of net given (record { 0 = i } ∷ []) → new ≡ old ++ group_outages_of net given (links_from 0 (i + 1))
group_next net given i old items new =
    let make : ℕ → LinkId = λ n. record { 0 = n } in
    added_next (group_outages_of net given) (groups_join net given) (links_from 0 i) (links_from 0 (i + 1)) (record { 0 = i }) old items new (map-range_with_len_more make 0 i i (omega arith))

pub router_next : (net : Net) (given : Bounds) (i : ℕ) (old items new : List Outage) → items ≡ old ++ router_outages_of net given (first_routers i) → new ≡ items ++ router_outages_of net given (record { 0 = i } ∷ []) → new ≡ old ++ router_outages_of net given (first_routers (i + 1))
router_next net given i old items new =
    let make : ℕ → RouterId = λ n. record { 0 = n } in
    added_next (router_outages_of net given) (routers_join net given) (first_routers i) (first_routers (i + 1)) (record { 0 = i }) old items new (map-range_with_len_more make 0 i i (omega arith))

-- at the end
pub groups_done : (net : Net) (given : Bounds) (i : ℕ) (old items : List Outage) → i ≡ length net.links → items ≡ old ++ group_outages_of net given (links_from 0 i) → items ≡ old ++ group_outages_of net given (all_links net)
groups_done net given i old items done so_far = so_far ∙ ap (λ n. old ++ group_outages_of net given (links_from 0 n)) done

pub routers_done : (net : Net) (given : Bounds) (i : ℕ) (old items : List Outage) → i ≡ length net.routers → items ≡ old ++ router_outages_of net given (first_routers i) → items ≡ old ++ router_outages_of net given (all_routers net)
routers_done net given i old items done so_far = so_far ∙ ap (λ n. old ++ router_outages_of net given (first_routers n)) done
