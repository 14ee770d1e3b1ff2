-- Sets of links, grown from the least link on.
use Rattle.std.proofs.Common.{◌≡◌, ℕ, ◌+◌, Bool, true, false, not, nat_eq, nat_lt, nat_le, List, [], ◌∷◌, ◌++◌, refl, sym, ap, ◌∙◌, arith, Some, None}
use Rattle.std.specs.List.{filter, find, list_all}
use Rattle.std.proofs.lemmas.Bool.{and_parts, and_from, ltb-true, lt-ltb, le-ltb, ne_eqb, not_from_false, not-true}
use Rattle.wi_net.specs.declared.parts.LinkId.{LinkId}
use Rattle.wi_net.specs.LinkSet.{has, is_apart, links_from, with_link}
use Rattle.wi_net.specs.Net.{Net, widened, same_risk}
use Rattle.wi_net.proofs.SetLemmas.{has-filter, has-links_from, all_from, any_in, in_any, same_risk_on}
use Rattle.wi_net.proofs.CountLemmas.{union_from}
use Rattle.wi_net.proofs.WidenLemmas.{filter_yes, filter_no}
use Rattle.std.specs.List.{list_any}

-- a link above all of a set goes last
with_last : (s : List LinkId) (e : LinkId) → list_all (λ x. nat_lt x.0 e.0) s ≡ true → with_link s e ≡ s ++ e ∷ []
with_last [] e below = refl
with_last (x ∷ s) e below =
    let parts = and_parts (nat_lt x.0 e.0) (list_all (λ y. nat_lt y.0 e.0) s) below in
    let up = ltb-true x.0 e.0 parts.0 in
    let over : nat_lt e.0 x.0 ≡ false = le-ltb e.0 x.0 (omega arith) in
    let other : nat_eq x.0 e.0 ≡ false = ne_eqb x.0 e.0 (λ k. absurd (omega arith)) in
    rw (over, other) (ap (λ t. x ∷ t) (with_last s e parts.1))

all_below : (p : LinkId → Bool) (n : ℕ) (e : LinkId) → e.0 ≡ n → list_all (λ x. nat_lt x.0 e.0) (filter p (links_from 0 n)) ≡ true
all_below p n e at = all_from (λ x. nat_lt x.0 e.0) (filter p (links_from 0 n)) (λ x h.
    let parts = and_parts (has (links_from 0 n) x) (p x) (sym (has-filter p (links_from 0 n) x) ∙ h) in
    let inside = and_parts (nat_le 0 x.0) (nat_lt x.0 (0 + n)) (sym (has-links_from 0 n x) ∙ parts.0) in
    let low = ltb-true x.0 (0 + n) inside.1 in
    lt-ltb x.0 e.0 (omega arith))

pub link_pushed : (p : LinkId → Bool) (n : ℕ) (s new : List LinkId) (e : LinkId) → s ≡ filter p (links_from 0 n) → e.0 ≡ n → p e ≡ true → new ≡ with_link s e → new ≡ filter p (links_from 0 (n + 1))
link_pushed p n s new e is at pe made =
    made ∙ ap (λ t. with_link t e) is ∙ with_last (filter p (links_from 0 n)) e (all_below p n e at) ∙ sym (filter_yes p n e at pe)

pub link_left_out : (p : LinkId → Bool) (n : ℕ) (s new : List LinkId) (e : LinkId) → s ≡ filter p (links_from 0 n) → e.0 ≡ n → p e ≡ false → new ≡ s → new ≡ filter p (links_from 0 (n + 1))
link_left_out p n s new e is at pe made = made ∙ is ∙ sym (filter_no p n e at pe)

-- a union of risk groups is one
pub widened_again : (net : Net) (s : List LinkId) → widened net (widened net s) ≡ widened net s
widened_again net s = union_from net (λ e. list_any (λ d. same_risk net d e) s) (λ x e kx ke px r.
    let found = in_any (λ d. same_risk net d x) s px in
    any_in (λ d. same_risk net d e) s found.0 found.1 (same_risk_on net found.0 x e found.2 r))

-- no link of the first is in the second
pub apart_from_none : (s t : List LinkId) → find (λ e. has t e) s ≡ None → is_apart s t ≡ true
apart_from_none [] t e = refl
apart_from_none (x ∷ s) t e = go (has t x) refl e (apart_from_none s t)
  where
    go : (b : Bool) → has t x ≡ b → find (λ e. has t e) (x ∷ s) ≡ None → (find (λ e. has t e) s ≡ None → is_apart s t ≡ true) → is_apart (x ∷ s) t ≡ true
    go true is h more = let some : Some x ≡ None = rw is at h in cc
    go false is h more = let rest : find (λ e. has t e) s ≡ None = rw is at h in and_from (not (has t x)) (is_apart s t) (not_from_false (has t x) is) (more rest)

pub none_from_apart : (s t : List LinkId) → is_apart s t ≡ true → find (λ e. has t e) s ≡ None
none_from_apart [] t h = refl
none_from_apart (x ∷ s) t h =
    let parts = and_parts (not (has t x)) (is_apart s t) h in
    rw (not-true (has t x) parts.0) (none_from_apart s t parts.1)
