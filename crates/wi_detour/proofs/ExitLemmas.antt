-- The index from a router to the links that leave it.
use Rattle.std.proofs.Common.{◌≡◌, ℕ, zero, suc, ◌+◌, ◌<◌, ◌≤◌, true, false, nat_eq, Option, List, [], ◌∷◌, ◌++◌, length, map, slice_get, slice_set, Some, None, refl, arith, ap, sym, ◌∙◌, inl, inr}
use Rattle.std.proofs.lemmas.Bool.{eqb-true, eq-eqb, ne_eqb, lt-ltb, cases_lt}
use Rattle.std.proofs.lemmas.Option.{slice_get_within}
use Rattle.std.specs.List.{filter, range_with_len}
use Rattle.std.specs.Option.{option_map_or}
use Rattle.wi_net.specs.declared.parts.LinkId.{LinkId}
use Rattle.wi_net.specs.declared.parts.Link.{Link}
use Rattle.wi_net.specs.LinkSet.{links_from, has}
use Rattle.wi_net.specs.Net.{Net}
use Rattle.wi_net.specs.Network.{leaves, HasEnds, IsNetwork}
use Rattle.wi_net.proofs.EndLemmas.{has_ends}
use Rattle.wi_net.proofs.SetLemmas.{has_where, where_has}
use Rattle.wi_net.proofs.WidenLemmas.{filter_yes, filter_no}
use Rattle.wi_detour.specs.Graphs.{exits_of}
use Rattle.wi_detour.specs.private.Exits.{exits_in, exits_among}

-- of no links
none_leave : (net : Net) (at n : ℕ) → map (λ (i : ℕ). []) (range_with_len at n) ≡ map (λ r. filter (leaves net (record { 0 = r })) (links_from 0 0)) (range_with_len at n)
none_leave net at zero = refl
none_leave net at (suc n) = ap (λ t. [] ∷ t) (none_leave net (at + 1) n)

pub exits_first : (net : Net) (n : ℕ) → map (λ (i : ℕ). []) (range_with_len 0 n) ≡ exits_among net 0 n
exits_first net n = none_leave net 0 n

-- a list over a range of numbers
get_from : (f : ℕ → List LinkId) (at n k r : ℕ) → k < n → r ≡ at + k → slice_get (map f (range_with_len at n)) k ≡ Some (f r)
get_from f at zero k r lt is = absurd (omega arith)
get_from f at (suc n) zero r lt is = let same : at ≡ r = omega arith in rw same refl
get_from f at (suc n) (suc k) r lt is = get_from f (at + 1) n k r (omega arith) (omega arith)

get_past : (f : ℕ → List LinkId) (at n k : ℕ) → n ≤ k → slice_get (map f (range_with_len at n)) k ≡ None
get_past f at zero zero le = refl
get_past f at zero (suc k) le = refl
get_past f at (suc n) zero le = absurd (omega arith)
get_past f at (suc n) (suc k) le = get_past f (at + 1) n k (omega arith)

range_count : (f : ℕ → List LinkId) (at n : ℕ) → length (map f (range_with_len at n)) ≡ n
range_count f at zero = refl
range_count f at (suc n) = ap suc (range_count f (at + 1) n)

map_after : (f g : ℕ → List LinkId) (r at n : ℕ) → r < at → ((x : ℕ) → (x ≡ r → ⊥) → g x ≡ f x) → map f (range_with_len at n) ≡ map g (range_with_len at n)
map_after f g r at zero lt same = refl
map_after f g r at (suc n) lt same = rw (same at (λ e. absurd (omega arith))) (ap (λ t. f at ∷ t) (map_after f g r (at + 1) n (omega arith) same))

-- with one place changed
set_from : (f g : ℕ → List LinkId) (r at n k : ℕ) → k < n → r ≡ at + k → ((x : ℕ) → (x ≡ r → ⊥) → g x ≡ f x) → slice_set (map f (range_with_len at n)) k (g r) ≡ map g (range_with_len at n)
set_from f g r at zero k lt is same = absurd (omega arith)
set_from f g r at (suc n) zero lt is same =
    let here : at ≡ r = omega arith in
    rw here (ap (λ t. g r ∷ t) (map_after f g r (r + 1) n (omega arith) same))
set_from f g r at (suc n) (suc k) lt is same =
    rw (same at (λ e. absurd (omega arith))) (ap (λ t. f at ∷ t) (set_from f g r (at + 1) n k (omega arith) (omega arith) same))

pub exits_count : (net : Net) (i n : ℕ) → length (exits_among net i n) ≡ n
exits_count net i n = range_count (λ r. filter (leaves net (record { 0 = r })) (links_from 0 i)) 0 n

-- each router has a place in the index
pub exits_place : (net : Net) (i r : ℕ) (exits : List (List LinkId)) → r < length net.routers → exits ≡ exits_among net i (length net.routers) → r < length exits
exits_place net i r exits lt index =
    let count : length exits ≡ length net.routers = ap length index ∙ exits_count net i (length net.routers) in
    omega (arith, lt, count)

-- one link more in the index
pub exits_next : (net : Net) (i n r : ℕ) (e : LinkId) (l : Link) (exits : List (List LinkId)) → e.0 ≡ i → slice_get net.links e.0 ≡ Some l → l.from.0 ≡ r → r < n → exits ≡ exits_among net i n
    → slice_set exits r (exits_in exits r ++ e ∷ []) ≡ exits_among net (i + 1) n
exits_next net i n r e l exits is at from lt index =
    rw (index, get_from old 0 n r r lt (omega arith), sym (filter_yes (leaves net (record { 0 = r })) i e is (rw at (eq-eqb l.from.0 r from))))
    (set_from old new r 0 n r lt (omega arith) others)
  where
    old : ℕ → List LinkId
    old = λ x. filter (leaves net (record { 0 = x })) (links_from 0 i)

    new : ℕ → List LinkId
    new = λ x. filter (leaves net (record { 0 = x })) (links_from 0 (i + 1))

    others : (x : ℕ) → (x ≡ r → ⊥) → new x ≡ old x
    others x other = filter_no (leaves net (record { 0 = x })) i e is (rw at (ne_eqb l.from.0 x (λ same. other (sym same ∙ from))))

pub exits_is : (net : Net) (r : ℕ) → r < length net.routers → exits_in (exits_of net) r ≡ filter (leaves net (record { 0 = r })) (links_from 0 (length net.links))
exits_is net r lt = rw (get_from (λ x. filter (leaves net (record { 0 = x })) (links_from 0 (length net.links))) 0 (length net.routers) r r lt (omega arith)) refl

pub exits_past : (net : Net) (r : ℕ) → length net.routers ≤ r → exits_in (exits_of net) r ≡ []
exits_past net r le = rw (get_past (λ x. filter (leaves net (record { 0 = x })) (links_from 0 (length net.links))) 0 (length net.routers) r le) refl

-- a link that leaves a router is a link of the network, from there
pub leaves_link : (net : Net) (r : ℕ) (f : LinkId) → leaves net (record { 0 = r }) f ≡ true → (l : Link) × (slice_get net.links f.0 ≡ Some l) × (l.from.0 ≡ r)
leaves_link net r f h = go (slice_get net.links f.0) refl h
  where
    go : (o : Option Link) → slice_get net.links f.0 ≡ o → option_map_or (λ (l : Link). nat_eq l.from.0 r) o false ≡ true → (l : Link) × (slice_get net.links f.0 ≡ Some l) × (l.from.0 ≡ r)
    go None e h = cc
    go (Some l) e h = (l, e, eqb-true l.from.0 r h)

-- and so is one that the index has
pub exit_link : (net : Net) (r : ℕ) (f : LinkId) → has (exits_in (exits_of net) r) f ≡ true → (l : Link) × (slice_get net.links f.0 ≡ Some l) × (l.from.0 ≡ r)
exit_link net r f h = elim (cases_lt r (length net.routers)) [
  | inl lt ↦ leaves_link net r f ((where_has net (leaves net (record { 0 = r })) f (ap (λ s. has s f) (sym (exits_is net r lt)) ∙ h)).1)
  | inr le ↦ absurd (none (ap (λ s. has s f) (sym (exits_past net r le)) ∙ h))
]
  where
    none : false ≡ true → ⊥
    none e = cc

-- the index has each link that leaves a router
pub link_exit : (net : Net) (f : LinkId) (l : Link) → IsNetwork net → slice_get net.links f.0 ≡ Some l → has (exits_in (exits_of net) l.from.0) f ≡ true
link_exit net f l keeps at =
    let ends : HasEnds net l = has_ends net f.0 l keeps at in
    ap (λ s. has s f) (exits_is net l.from.0 ends.from)
    ∙ has_where net (leaves net (record { 0 = l.from.0 })) f (lt-ltb f.0 (length net.links) (slice_get_within net.links f.0 l at)) (rw at (eq-eqb l.from.0 l.from.0 refl))
