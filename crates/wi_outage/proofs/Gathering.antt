-- The links of each router, as they are gathered link by link.
use Rattle.std.proofs.Common.{◌≡◌, ℕ, zero, suc, ◌+◌, ◌<◌, Bool, true, false, cond, ◌||◌, nat_eq, nat_lt, List, [], ◌∷◌, length, map, slice_get, slice_set, get_or, Some, refl, arith, ap, sym, ◌∙◌}
use Rattle.std.specs.Prelude.{unwrap_or}
use Rattle.std.proofs.lemmas.Bool.{eq-eqb, ne_eqb, and_parts, or_right}
use Rattle.std.proofs.lemmas.List.{length-map, length-set, get_or-map}
use Rattle.std.proofs.lemmas.List.FromFn.{length-map-range_with_len, get_or-map-range_with_len}
use Rattle.std.specs.List.{filter, list_all, range_with_len}
use Rattle.wi_net.specs.declared.parts.LinkId.{LinkId}
use Rattle.wi_net.specs.declared.parts.Link.{Link}
use Rattle.wi_net.specs.declared.parts.RouterId.{RouterId}
use Rattle.wi_net.specs.LinkSet.{has, with_link, links_from}
use Rattle.wi_net.specs.Net.{Net}
use Rattle.wi_net.specs.Network.{leaves}
use Rattle.wi_net.proofs.SetLemmas.{all_from, has-filter, has-links_from, lt_zero_plus}
use Rattle.wi_net.proofs.RisingLemmas.{with_same, with_rising}
use Rattle.wi_net.proofs.WidenLemmas.{filter_no, filter_yes, has-with_link, union_rising}
use Rattle.wi_net.proofs.IndexLemmas.{with_last}
use Rattle.wi_outage.specs.Outages.{reaches, links_at, all_routers}
use Rattle.wi_outage.specs.private.Making.{listed_at, with_link_at}

-- a link leaves or reaches a router
abbrev touches : Net → RouterId → LinkId → Bool
touches net router e = leaves net router e || reaches net router e

-- of the first links those of a router, and of each one
abbrev first_at : Net → ℕ → RouterId → List LinkId
first_at net i router = filter (touches net router) (links_from 0 i)

abbrev pub gathered : Net → ℕ → List (List LinkId)
gathered net i = map (first_at net i) (all_routers net)

-- routers from a number on
abbrev routers_from : ℕ → ℕ → List RouterId
routers_from at n = map (λ i. record { 0 = i }) (range_with_len at n)

-- ---- one more link for one router

-- the links of a router, with one more if it is this one
abbrev with_more : (RouterId → List LinkId) → RouterId → LinkId → RouterId → List LinkId
with_more f r e x = cond (nat_eq r.0 x.0) (with_link (f x) e) (f x)

past : (f : RouterId → List LinkId) (r : RouterId) (e : LinkId) (at n : ℕ) → r.0 < at → map f (routers_from at n) ≡ map (with_more f r e) (routers_from at n)
past f r e at zero low = refl
past f r e at (suc n) low = rw (ne_eqb r.0 at (λ same. absurd (omega arith))) (ap (λ t. f (record { 0 = at }) ∷ t) (past f r e (at + 1) n (omega arith)))

placed : (f : RouterId → List LinkId) (r : RouterId) (e : LinkId) (at n k : ℕ) → k < n → r.0 ≡ at + k → slice_set (map f (routers_from at n)) k (with_link (unwrap_or (slice_get (map f (routers_from at n)) k) []) e) ≡ map (with_more f r e) (routers_from at n)
placed f r e at zero k low is = absurd (omega arith)
placed f r e at (suc n) zero low is = rw (eq-eqb r.0 at (omega arith)) (ap (λ t. with_link (f (record { 0 = at })) e ∷ t) (past f r e (at + 1) n (omega arith)))
placed f r e at (suc n) (suc k) low is =
    rw (ne_eqb r.0 at (λ same. absurd (omega arith))) (ap (λ t. f (record { 0 = at }) ∷ t) (placed f r e (at + 1) n k (omega arith) (omega arith)))

with_one : (net : Net) (f : RouterId → List LinkId) (r : RouterId) (e : LinkId) → r.0 < length net.routers → with_link_at (map f (all_routers net)) r e ≡ map (with_more f r e) (all_routers net)
with_one net f r e low = placed f r e 0 (length net.routers) r.0 low (omega arith)

-- ---- one more link for the two routers at its ends

same_each : (f g : RouterId → List LinkId) (rs : List RouterId) → ((r : RouterId) → f r ≡ g r) → map f rs ≡ map g rs
same_each f g [] same = refl
same_each f g (r ∷ rs) same = rw (same r) (ap (λ t. g r ∷ t) (same_each f g rs same))

-- the first links lie below the next
below : (p : LinkId → Bool) (i : ℕ) → list_all (λ (x : LinkId). nat_lt x.0 i) (filter p (links_from 0 i)) ≡ true
below p i = all_from (λ (x : LinkId). nat_lt x.0 i) (filter p (links_from 0 i)) (λ x h.
    let parts = and_parts (has (links_from 0 i) x) (p x) (sym (has-filter p (links_from 0 i) x) ∙ h) in
    sym (has-links_from 0 i x ∙ lt_zero_plus x.0 i) ∙ parts.0)

appended : (p : LinkId → Bool) (i : ℕ) (e : LinkId) → e.0 ≡ i → p e ≡ true → with_link (filter p (links_from 0 i)) e ≡ filter p (links_from 0 (i + 1))
appended p i e is passes = with_last (filter p (links_from 0 i)) e (rw is (below p i)) ∙ sym (filter_yes p i e is passes)

-- put twice, it is there once
appended_twice : (p : LinkId → Bool) (i : ℕ) (e : LinkId) → e.0 ≡ i → p e ≡ true → with_link (with_link (filter p (links_from 0 i)) e) e ≡ filter p (links_from 0 (i + 1))
appended_twice p i e is passes =
    with_same (with_link (filter p (links_from 0 i)) e) e (with_rising (filter p (links_from 0 i)) e (union_rising p i))
    (has-with_link (filter p (links_from 0 i)) e e ∙ or_right (has (filter p (links_from 0 i)) e) (nat_eq e.0 e.0) (eq-eqb e.0 e.0 refl))
    ∙ appended p i e is passes

touches_ends : (net : Net) (e : LinkId) (l : Link) (x : RouterId) → slice_get net.links e.0 ≡ Some l → touches net x e ≡ (nat_eq l.from.0 x.0 || nat_eq l.to.0 x.0)
touches_ends net e l x found = rw found refl

ends_put : (net : Net) (i : ℕ) (e : LinkId) (l : Link) (x : RouterId) → e.0 ≡ i → slice_get net.links e.0 ≡ Some l → with_more (with_more (first_at net i) l.from e) l.to e x ≡ first_at net (i + 1) x
ends_put net i e l x is found = go (nat_eq l.from.0 x.0) (nat_eq l.to.0 x.0) refl refl
  where
    go : (a b : Bool) → nat_eq l.from.0 x.0 ≡ a → nat_eq l.to.0 x.0 ≡ b → with_more (with_more (first_at net i) l.from e) l.to e x ≡ first_at net (i + 1) x
    go true true ea eb = rw (ea, eb) (appended_twice (touches net x) i e is (touches_ends net e l x found ∙ rw ea refl))
    go true false ea eb = rw (ea, eb) (appended (touches net x) i e is (touches_ends net e l x found ∙ rw ea refl))
    go false true ea eb = rw (ea, eb) (appended (touches net x) i e is (touches_ends net e l x found ∙ rw (ea, eb) refl))
    go false false ea eb = rw (ea, eb) (sym (filter_no (touches net x) i e is (touches_ends net e l x found ∙ rw (ea, eb) refl)))

-- ---- the loop over the links

none_from : (net : Net) (at n : ℕ) → map (λ (i : ℕ). []) (range_with_len at n) ≡ map (first_at net 0) (routers_from at n)
none_from net at zero = refl
none_from net at (suc n) = ap (λ t. [] ∷ t) (none_from net (at + 1) n)

pub none_gathered : (net : Net) → map (λ (i : ℕ). []) (range_with_len 0 (length net.routers)) ≡ gathered net 0
none_gathered net = none_from net 0 (length net.routers)

-- the index has all routers, also while links are put
pub gathered_long : (net : Net) (i : ℕ) (index : List (List LinkId)) → index ≡ gathered net i → length index ≡ length net.routers
gathered_long net i index is =
    let make : ℕ → RouterId = λ n. record { 0 = n } in
    ap length is ∙ length-map (all_routers net) (first_at net i) ∙ length-map-range_with_len make 0 (length net.routers)

pub put_long : (index new : List (List LinkId)) (r : RouterId) (e : LinkId) → new ≡ with_link_at index r e → length new ≡ length index
put_long index new r e is = ap length is ∙ length-set index r.0 (with_link (listed_at index r) e)

pub gathered_next : (net : Net) (i : ℕ) (e : LinkId) (l : Link) (index one two : List (List LinkId)) → e.0 ≡ i → slice_get net.links e.0 ≡ Some l → l.from.0 < length net.routers → l.to.0 < length net.routers → index ≡ gathered net i → one ≡ with_link_at index l.from e → two ≡ with_link_at one l.to e → two ≡ gathered net (i + 1)
gathered_next net i e l index one two is found from to so_far first second =
    let left : one ≡ map (with_more (first_at net i) l.from e) (all_routers net) = first ∙ ap (λ t. with_link_at t l.from e) so_far ∙ with_one net (first_at net i) l.from e from in
    second ∙ ap (λ t. with_link_at t l.to e) left ∙ with_one net (with_more (first_at net i) l.from e) l.to e to
    ∙ same_each (with_more (with_more (first_at net i) l.from e) l.to e) (first_at net (i + 1)) (all_routers net) (λ x. ends_put net i e l x is found)

pub all_gathered : (net : Net) (i : ℕ) (index : List (List LinkId)) → i ≡ length net.links → index ≡ gathered net i → index ≡ map (links_at net) (all_routers net)
all_gathered net i index done so_far = so_far ∙ ap (gathered net) done

-- ---- what an index has for a router

pub routers_listed : (net : Net) (index : List (List LinkId)) (i : ℕ) → index ≡ map (links_at net) (all_routers net) → i < length net.routers → i < length index
routers_listed net index i is low =
    let make : ℕ → RouterId = λ n. record { 0 = n } in
    let long : length index ≡ length net.routers = ap length is ∙ length-map (all_routers net) (links_at net) ∙ length-map-range_with_len make 0 (length net.routers) in
    omega (arith, long, low)

pub links_listed : (net : Net) (index : List (List LinkId)) (i : ℕ) (links : List LinkId) → index ≡ map (links_at net) (all_routers net) → i < length net.routers → links ≡ get_or index i links → links ≡ links_at net (record { 0 = i })
links_listed net index i links is low read =
    let make : ℕ → RouterId = λ n. record { 0 = n } in
    let long : i < length (all_routers net) = omega (arith, length-map-range_with_len make 0 (length net.routers), low) in
    read ∙ ap (λ t. get_or t i links) is ∙ get_or-map (links_at net) (all_routers net) i (record { 0 = i }) links long ∙ ap (links_at net) (get_or-map-range_with_len make 0 (length net.routers) i i (record { 0 = i }) low (omega arith))
