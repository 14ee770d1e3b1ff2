-- Which links a set has, by how the set is made.
use Rattle.std.proofs.Common.{◌≡◌, ℕ, zero, suc, ◌+◌, Bool, true, false, not, ◌&&◌, nat_eq, nat_lt, nat_le, List, [], ◌∷◌, length, refl, arith, ap, inl, inr, sym, ◌∙◌}
use Rattle.std.proofs.lemmas.Bool.{eqb-true, eq-eqb, and_parts, and_from, and_right, not-true, not_from_false, or_cases, or_left, or_right}
use Rattle.std.proofs.lemmas.Bool.Decides.{nat_tests}
use Rattle.std.specs.List.{filter, list_any, list_all}
use Rattle.wi_net.specs.declared.parts.LinkId.{LinkId}
use Rattle.wi_net.specs.Net.{Net}
use Rattle.wi_net.specs.LinkSet.{links_from, has, is_within, is_apart}
use Rattle.wi_net.specs.Net.{all_links, links_where, is_link, risk_of, same_risk, widened}

-- links of one number are one
pub same_link : (d e : LinkId) → nat_eq d.0 e.0 ≡ true → d ≡ e
same_link d e h = let make : ℕ → LinkId = λ n. record { 0 = n } in ap make (eqb-true d.0 e.0 h)

has_self : (e : LinkId) → nat_eq e.0 e.0 ≡ true
has_self e = eq-eqb e.0 e.0 refl

-- a filtered set
pub has-filter : (p : LinkId → Bool) (s : List LinkId) (e : LinkId) → has (filter p s) e ≡ (has s e && p e)
has-filter p [] e = refl
has-filter p (x ∷ s) e = go (nat_eq x.0 e.0) (p x) refl refl (has-filter p s e)
  where
    go : (b c : Bool) → nat_eq x.0 e.0 ≡ b → p x ≡ c → has (filter p s) e ≡ (has s e && p e) → has (filter p (x ∷ s)) e ≡ (has (x ∷ s) e && p e)
    go true true eb ec ih = let pe : p e ≡ true = rw (same_link x e eb) at ec in rw (ec, pe, eb) refl
    go true false eb ec ih = let pe : p e ≡ false = rw (same_link x e eb) at ec in rw (ec, pe, eb) (ih ∙ and_right (has s e) (p e) pe)
    go false true eb ec ih = rw (ec, eb) ih
    go false false eb ec ih = rw (ec, eb) ih

-- the links from one on
pub has-links_from : (at n : ℕ) (e : LinkId) → has (links_from at n) e ≡ (nat_le at e.0 && nat_lt e.0 (at + n))
has-links_from at zero e = grind (arith, nat_tests)
has-links_from at (suc n) e = let ih = has-links_from (at + 1) n e in grind (arith, nat_tests, ih)

pub lt_zero_plus : (a n : ℕ) → (nat_le 0 a && nat_lt a (0 + n)) ≡ nat_lt a n
lt_zero_plus a n = grind (arith, nat_tests)

pub has-all_links : (net : Net) (e : LinkId) → has (all_links net) e ≡ is_link net e
has-all_links net e = has-links_from 0 (length net.links) e ∙ lt_zero_plus e.0 (length net.links)

-- the network's links that pass a test
pub has-links_where : (net : Net) (p : LinkId → Bool) (e : LinkId) → has (links_where net p) e ≡ (is_link net e && p e)
has-links_where net p e = rw (has-filter p (all_links net) e, has-all_links net e) refl

pub has_where : (net : Net) (p : LinkId → Bool) (e : LinkId) → is_link net e ≡ true → p e ≡ true → has (links_where net p) e ≡ true
has_where net p e known pe = has-links_where net p e ∙ and_from (is_link net e) (p e) known pe

pub where_has : (net : Net) (p : LinkId → Bool) (e : LinkId) → has (links_where net p) e ≡ true → (is_link net e ≡ true) × (p e ≡ true)
where_has net p e h = and_parts (is_link net e) (p e) (sym (has-links_where net p e) ∙ h)

-- a link of a set passes a test that one of the set's links passes
pub any_in : (p : LinkId → Bool) (s : List LinkId) (e : LinkId) → has s e ≡ true → p e ≡ true → list_any p s ≡ true
any_in p [] e h pe = cc
any_in p (x ∷ s) e h pe =
    elim (or_cases (nat_eq x.0 e.0) (has s e) h) [
      | inl eb ↦ or_left (p x) (list_any p s) (rw (same_link x e eb) pe)
      | inr more ↦ or_right (p x) (list_any p s) (any_in p s e more pe)
    ]

pub in_any : (p : LinkId → Bool) (s : List LinkId) → list_any p s ≡ true → (e : LinkId) × (has s e ≡ true) × (p e ≡ true)
in_any p [] h = cc
in_any p (x ∷ s) h =
    elim (or_cases (p x) (list_any p s) h) [
      | inl px ↦ (x, or_left (nat_eq x.0 x.0) (has s x) (has_self x), px)
      | inr more ↦
          (let found = in_any p s more in (found.0, or_right (nat_eq x.0 (found.0).0) (has s found.0) found.1, found.2))
    ]

-- each link of a set passes a test
pub all_at : (p : LinkId → Bool) (s : List LinkId) (e : LinkId) → list_all p s ≡ true → has s e ≡ true → p e ≡ true
all_at p [] e w h = cc
all_at p (x ∷ s) e w h =
    elim (or_cases (nat_eq x.0 e.0) (has s e) h) [
      | inl eb ↦ rw (sym (same_link x e eb)) ((and_parts (p x) (list_all p s) w).0)
      | inr more ↦ all_at p s e ((and_parts (p x) (list_all p s) w).1) more
    ]

pub all_from : (p : LinkId → Bool) (s : List LinkId) → ((e : LinkId) → has s e ≡ true → p e ≡ true) → list_all p s ≡ true
all_from p [] each = refl
all_from p (x ∷ s) each =
    and_from (p x) (list_all p s) (each x (or_left (nat_eq x.0 x.0) (has s x) (has_self x)))
    (all_from p s (λ e h. each e (or_right (nat_eq x.0 e.0) (has s e) h)))

-- within, and apart, by links
pub within_has : (s t : List LinkId) (e : LinkId) → is_within s t ≡ true → has s e ≡ true → has t e ≡ true
within_has s t e w h = all_at (λ x. has t x) s e w h

pub within_from : (s t : List LinkId) → ((e : LinkId) → has s e ≡ true → has t e ≡ true) → is_within s t ≡ true
within_from s t each = all_from (λ x. has t x) s each

pub apart_has : (s t : List LinkId) (e : LinkId) → is_apart s t ≡ true → has s e ≡ true → has t e ≡ false
apart_has s t e w h = not-true (has t e) (all_at (λ x. not (has t x)) s e w h)

pub apart_from : (s t : List LinkId) → ((e : LinkId) → has s e ≡ true → has t e ≡ false) → is_apart s t ≡ true
apart_from s t each = all_from (λ x. not (has t x)) s (λ e h. not_from_false (has t e) (each e h))

-- risk groups
pub same_risk_self : (net : Net) (e : LinkId) → same_risk net e e ≡ true
same_risk_self net e = has_self (risk_of net e)

pub same_risk_flip : (net : Net) (d e : LinkId) → same_risk net d e ≡ true → same_risk net e d ≡ true
same_risk_flip net d e h = let s = same_link (risk_of net d) (risk_of net e) h in rw s (has_self (risk_of net e))

pub same_risk_on : (net : Net) (c d e : LinkId) → same_risk net c d ≡ true → same_risk net d e ≡ true → same_risk net c e ≡ true
same_risk_on net c d e h k = let s = same_link (risk_of net c) (risk_of net d) h in rw s k

-- a union of risk groups has its links' groups, and only the network's links
pub union_has : (net : Net) (s : List LinkId) (d e : LinkId) → widened net s ≡ s → has s d ≡ true → same_risk net d e ≡ true → is_link net e ≡ true → has s e ≡ true
union_has net s d e u h r known =
    ap (λ t. has t e) (sym u) ∙ has_where net (λ x. list_any (λ y. same_risk net y x) s) e known (any_in (λ y. same_risk net y e) s d h r)

pub union_link : (net : Net) (s : List LinkId) (e : LinkId) → widened net s ≡ s → has s e ≡ true → is_link net e ≡ true
union_link net s e u h = (where_has net (λ x. list_any (λ y. same_risk net y x) s) e (ap (λ t. has t e) u ∙ h)).0
