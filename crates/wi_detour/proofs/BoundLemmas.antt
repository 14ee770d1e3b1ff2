-- A way that enters no state twice is no longer than one that does, so least ways have few links, and their lengths fit.
use Rattle.std.proofs.Common.{◌≡◌, ℕ, zero, suc, ◌+◌, ◌*◌, ◌^◌, ◌<◌, ◌≤◌, ◌==◌, ◌⊎◌, Bool, true, false, not, cond, nat_lt, List, [], ◌∷◌, length, map, slice_get, Option, Some, None, refl, arith, ap, sym, ◌∙◌, subst, inl, inr}
use Rattle.std.specs.List.{filter, list_any}
use Rattle.std.specs.Option.{option_map_or}
use Rattle.std.proofs.lemmas.Bool.{eqb-true, eqb-false, eq-eqb, ltb-true, or_cases, or_left, or_right}
use Rattle.std.proofs.lemmas.List.{length-map}
use Rattle.wi_net.specs.declared.parts.LinkId.{LinkId}
use Rattle.wi_net.specs.declared.parts.Link.{Link}
use Rattle.wi_net.specs.LinkSet.{has}
use Rattle.wi_net.specs.Net.{Net}
use Rattle.wi_net.specs.Network.{IsNetwork}
use Rattle.wi_net.proofs.KeptLists.{all_get}
use Rattle.wi_detour.specs.Detours.{distance_of, length_of}
use Rattle.wi_detour.specs.private.Around.{Around, state_of, target_of, links_on}
use Rattle.wi_detour.proofs.WayLemmas.{LeadsOn, Leads, leads_on, target_is}

-- a state is one of some
abbrev is_among : List ℕ → ℕ → Bool
is_among s p = list_any (λ x. x == p) s

-- states without one
abbrev but : List ℕ → ℕ → List ℕ
but s p = filter (λ x. not (x == p)) s

but_no_more : (s : List ℕ) (p : ℕ) → length (but s p) ≤ length s
but_no_more [] p = omega arith
but_no_more (x ∷ s) p = go (x == p) (but_no_more s p)
  where
    go : (b : Bool) → length (but s p) ≤ length s → length (cond (not b) (x ∷ but s p) (but s p)) ≤ suc (length s)
    go true le = omega arith
    go false le = omega arith

but_fewer : (s : List ℕ) (p : ℕ) → is_among s p ≡ true → length (but s p) < length s
but_fewer [] p h = cc
but_fewer (x ∷ s) p h = go (x == p) refl (but_no_more s p) (but_fewer s p) (or_cases (x == p) (is_among s p) h)
  where
    go : (b : Bool) → (x == p) ≡ b → length (but s p) ≤ length s → (is_among s p ≡ true → length (but s p) < length s) → ((x == p) ≡ true) ⊎ (is_among s p ≡ true)
        → length (cond (not b) (x ∷ but s p) (but s p)) < suc (length s)
    go true e le fewer k = omega arith
    go false e le fewer (inl here) = cc
    go false e le fewer (inr more) = let less = fewer more in omega (arith, less)

among_but : (s : List ℕ) (p x : ℕ) → is_among s x ≡ true → (x ≡ p → ⊥) → is_among (but s p) x ≡ true
among_but [] p x h other = cc
among_but (y ∷ s) p x h other = go (y == p) refl (λ more. among_but s p x more other) (or_cases (y == x) (is_among s x) h)
  where
    go : (b : Bool) → (y == p) ≡ b → (is_among s x ≡ true → is_among (but s p) x ≡ true) → ((y == x) ≡ true) ⊎ (is_among s x ≡ true) → is_among (cond (not b) (y ∷ but s p) (but s p)) x ≡ true
    go true e rest (inl here) = absurd (other (sym (eqb-true y x here) ∙ eqb-true y p e))
    go true e rest (inr more) = rest more
    go false e rest (inl here) = or_left (y == x) (is_among (but s p) x) here
    go false e rest (inr more) = or_right (y == x) (is_among (but s p) x) (rest more)

module _ (a : Around) where
  -- where a link leads
  abbrev after : LinkId → ℕ
  after f = state_of (target_of a.net f)

  -- a way whose links leave some states alone
  abbrev Within : List ℕ → ℕ → List LinkId → Type 0
  Within s p [] = p ≡ state_of a.ends.to.0
  Within s p (f ∷ via) = (is_among s p ≡ true) × (has (links_on a p) f ≡ true) × Within s (after f) via

  -- from the last link of a way that leaves a state on
  abbrev Last : List ℕ → ℕ → List LinkId → Type 0
  Last s p via = (f : LinkId) × (rest : List LinkId) × (has (links_on a p) f ≡ true) × Within (but s p) (after f) rest × (distance_of a.net f + length_of a.net rest ≤ length_of a.net via)

  -- a way leaves a state no more, or there is a last time
  last_time : (s : List ℕ) (p : ℕ) (via : List LinkId) (q : ℕ) → Within s q via → Within (but s p) q via ⊎ Last s p via
  last_time s p [] q h = inl h
  last_time s p (f ∷ via) q h = elim (last_time s p via (after f) h.2) [
    | inr k ↦ let shorter = k.4 in inr (k.0, k.1, k.2, k.3, omega (arith, shorter))
    | inl k ↦ here (q == p) refl k
  ]
    where
      here : (b : Bool) → (q == p) ≡ b → Within (but s p) (after f) via → Within (but s p) q (f ∷ via) ⊎ Last s p (f ∷ via)
      here true e k = inr (f, via, subst (λ x. has (links_on a x) f ≡ true) (eqb-true q p e) h.1, k, omega arith)
      here false e k = inl (among_but s p q h.0 (eqb-false q p e), h.1, k)

  -- a way that is no longer than another, and has so many links at most
  abbrev Shorter : ℕ → ℕ → List LinkId → Type 0
  Shorter n p via = (short : List LinkId) × Leads a p short × (length_of a.net short ≤ length_of a.net via) × (length short ≤ n)

  shorten : (n : ℕ) (s : List ℕ) → length s ≤ n → (p : ℕ) (via : List LinkId) → Within s p via → Shorter n p via
  shorten n s few p [] h = ([], h, omega arith, omega arith)
  shorten zero s few p (f ∷ via) h = let less = but_fewer s p h.0 in absurd (omega (arith, less, few))
  shorten (suc n) s few p (f ∷ via) h =
      let less = but_fewer s p h.0 in
      let fewer : length (but s p) ≤ n = omega (arith, less, few) in
      elim (last_time s p via (after f) h.2) [
        | inl k ↦ (let rest = shorten n (but s p) fewer (after f) via k in let le = rest.2 in let few' = rest.3 in (f ∷ rest.0, (h.1, rest.1), omega (arith, le), omega (arith, few')))
        | inr k ↦ (let rest = shorten n (but s p) fewer (after k.0) k.1 k.3 in let le = rest.2 in let le' = k.4 in let few' = rest.3 in (k.0 ∷ rest.0, (k.2, rest.1), omega (arith, le, le'), omega (arith, few')))
      ]

  -- the states that links lead to
  abbrev states : List ℕ
  states = map (λ (l : Link). state_of l.to.0) a.net.links

  lead_to : (links : List Link) (i : ℕ) (l : Link) → slice_get links i ≡ Some l → is_among (map (λ (l : Link). state_of l.to.0) links) (state_of l.to.0) ≡ true
  lead_to [] i l e = cc
  lead_to (x ∷ links) zero l e =
      or_left (state_of x.to.0 == state_of l.to.0) (is_among (map (λ (l : Link). state_of l.to.0) links) (state_of l.to.0)) (eq-eqb (state_of x.to.0) (state_of l.to.0) (same e))
    where
      same : {x l : Link} → Some x ≡ Some l → state_of x.to.0 ≡ state_of l.to.0
      same e = cc
  lead_to (x ∷ links) (suc i) l e =
      or_right (state_of x.to.0 == state_of l.to.0) (is_among (map (λ (l : Link). state_of l.to.0) links) (state_of l.to.0)) (lead_to links i l e)

  all_within : (via : List LinkId) (p : ℕ) → is_among states p ≡ true → Leads a p via → Within states p via
  all_within [] p there h = h
  all_within (f ∷ via) p there h =
      let on : LeadsOn a p f = leads_on a p f h.0 in
      let next : is_among states (after f) ≡ true = ap (λ t. is_among states (state_of t)) (target_is a f on.link on.is) ∙ lead_to a.net.links f.0 on.link on.is in
      (there, h.0, all_within via (after f) next h.1)

  -- each way has a shorter one of few links
  pub shortened : length a.net.links ≤ 20000 → (p : ℕ) (via : List LinkId) → Leads a p via → Shorter 20001 p via
  shortened few p [] h = ([], h, omega arith, omega arith)
  shortened few p (f ∷ via) h =
      let on : LeadsOn a p f = leads_on a p f h.0 in
      let next : is_among states (after f) ≡ true = ap (λ t. is_among states (state_of t)) (target_is a f on.link on.is) ∙ lead_to a.net.links f.0 on.link on.is in
      let count : length states ≡ length a.net.links = length-map a.net.links (λ (l : Link). state_of l.to.0) in
      let rest = shorten 20000 states (omega (arith, count, few)) (after f) via (all_within via (after f) next h.1) in
      let le = rest.2 in
      let few' = rest.3 in
      (f ∷ rest.0, (h.0, rest.1), omega (arith, le), omega (arith, few'))

-- a link's distance is below 2^32
pub near : (net : Net) (f : LinkId) → IsNetwork net → distance_of net f < 4294967296
near net f keeps = go (slice_get net.links f.0) refl
  where
    go : (o : Option Link) → slice_get net.links f.0 ≡ o → option_map_or (λ (l : Link). l.distance) o 0 < 4294967296
    go None e = omega arith
    go (Some l) e = ltb-true l.distance 4294967296 (all_get (λ (l : Link). nat_lt l.distance (2 ^ 32)) net.links f.0 l keeps.near e)

pub near_by : (net : Net) (via : List LinkId) → IsNetwork net → length_of net via ≤ 4294967296 * length via
near_by net [] keeps = omega arith
near_by net (f ∷ via) keeps =
    let one = near net f keeps in
    let rest = near_by net via keeps in
    omega (arith, one, rest)
