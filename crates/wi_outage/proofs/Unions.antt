-- Unions of risk groups, and what is in neither of two sets.
use Rattle.std.proofs.Common.{◌≡◌, ◌≤◌, Bool, true, false, not, ◌&&◌, ◌||◌, List, [], ◌∷◌, length, refl, arith, ap, inl, inr, sym, ◌∙◌}
use Rattle.std.proofs.lemmas.Bool.{and_parts, and_from, or_cases, or_left, or_right, false_from_ne_true, true≢false}
use Rattle.std.specs.List.{filter, list_any}
use Rattle.wi_net.specs.declared.parts.LinkId.{LinkId}
use Rattle.wi_net.specs.LinkSet.{has, is_rising, is_apart, outside}
use Rattle.wi_net.specs.RiskGroups.{union}
use Rattle.wi_net.specs.Net.{Net, all_links, is_link, links_where, same_risk, widened}
use Rattle.wi_net.proofs.SetLemmas.{has-filter, has-links_where, apart_has, apart_from, union_has, union_link, same_risk_on}
use Rattle.wi_net.proofs.CountLemmas.{bool_same, union_from}
use Rattle.wi_net.proofs.RisingLemmas.{filter_rising, rising_same}
use Rattle.wi_net.proofs.WidenLemmas.{has-union, union_keeps_rising, union_rising}

-- ---- two sets that have no link in common

pub apart_turned : (s t : List LinkId) → is_apart s t ≡ true → is_apart t s ≡ true
apart_turned s t h = apart_from t s (λ e i. false_from_ne_true (has s e) (λ j. true≢false (sym i ∙ apart_has s t e h j)))

pub apart_flip : (s t : List LinkId) → is_apart s t ≡ is_apart t s
apart_flip s t = bool_same (is_apart s t) (is_apart t s) (apart_turned s t) (apart_turned t s)

-- a set is apart from two others together
pub apart_union : (s t u : List LinkId) → is_apart s t ≡ true → is_apart s u ≡ true → is_apart s (union t u) ≡ true
apart_union s t u h k =
    apart_from s (union t u) (λ e i. has-union t u e ∙ ap (λ b. b || has u e) (apart_has s t e h i) ∙ apart_has s u e k i)

-- and two together are apart from a third
pub union_apart : (s t u : List LinkId) → is_apart s u ≡ true → is_apart t u ≡ true → is_apart (union s t) u ≡ true
union_apart s t u h k = apart_turned u (union s t) (apart_union u s t (apart_turned s u h) (apart_turned t u k))

-- a link of two sets together is in one of them
pub in_union : (s t : List LinkId) (e : LinkId) → has (union s t) e ≡ true → (has s e || has t e) ≡ true
in_union s t e h = sym (has-union s t e) ∙ h

pub union_first : (s t : List LinkId) (e : LinkId) → has s e ≡ true → has (union s t) e ≡ true
union_first s t e h = has-union s t e ∙ or_left (has s e) (has t e) h

pub union_second : (s t : List LinkId) (e : LinkId) → has t e ≡ true → has (union s t) e ≡ true
union_second s t e h = has-union s t e ∙ or_right (has s e) (has t e) h

-- ---- unions of risk groups

-- one is listed in rising order
pub whole_rising : (net : Net) (s : List LinkId) → widened net s ≡ s → is_rising s ≡ true
whole_rising net s u = ap is_rising (sym u) ∙ union_rising (λ e. list_any (λ d. same_risk net d e) s) (length net.links)

none_kept : (s : List LinkId) → filter (λ e. false) s ≡ []
none_kept [] = refl
none_kept (x ∷ s) = none_kept s

-- no links are one
pub none_whole : (net : Net) → widened net [] ≡ []
none_whole net = none_kept (all_links net)

-- what is widened is one
pub widened_whole : (net : Net) (s : List LinkId) → widened net (widened net s) ≡ widened net s
widened_whole net s = union_from net (λ e. list_any (λ d. same_risk net d e) s) (λ x e kx ke px r. along s x e px r)
  where
    along : (s : List LinkId) (x e : LinkId) → list_any (λ d. same_risk net d x) s ≡ true → same_risk net x e ≡ true → list_any (λ d. same_risk net d e) s ≡ true
    along [] x e h r = h
    along (d ∷ s) x e h r =
        elim (or_cases (same_risk net d x) (list_any (λ y. same_risk net y x) s) h) [
          | inl here ↦ or_left (same_risk net d e) (list_any (λ y. same_risk net y e) s) (same_risk_on net d x e here r)
          | inr more ↦ or_right (same_risk net d e) (list_any (λ y. same_risk net y e) s) (along s x e more r)
        ]

-- two together are the network's links in one of them
union_where : (net : Net) (s t : List LinkId) → widened net s ≡ s → widened net t ≡ t → union s t ≡ links_where net (λ e. has s e || has t e)
union_where net s t us ut =
    rising_same (union s t) (links_where net both) (union_keeps_rising s t (whole_rising net s us)) (union_rising both (length net.links))
    (λ e. has-union s t e ∙ sym (has-links_where net both e ∙ only e))
  where
    both : LinkId → Bool
    both = λ e. has s e || has t e

    known : (e : LinkId) → (has s e || has t e) ≡ true → is_link net e ≡ true
    known e h = elim (or_cases (has s e) (has t e) h) [ inl i ↦ union_link net s e us i | inr i ↦ union_link net t e ut i ]

    only : (e : LinkId) → (is_link net e && (has s e || has t e)) ≡ (has s e || has t e)
    only e =
        bool_same (is_link net e && (has s e || has t e)) (has s e || has t e) (λ h. (and_parts (is_link net e) (has s e || has t e) h).1)
        (λ h. and_from (is_link net e) (has s e || has t e) (known e h) h)

-- and so are one
pub union_whole : (net : Net) (s t : List LinkId) → widened net s ≡ s → widened net t ≡ t → widened net (union s t) ≡ union s t
union_whole net s t us ut = ap (widened net) is ∙ union_from net (λ e. has s e || has t e) along ∙ sym is
  where
    is : union s t ≡ links_where net (λ e. has s e || has t e)
    is = union_where net s t us ut

    along : (x e : LinkId) → is_link net x ≡ true → is_link net e ≡ true → (has s x || has t x) ≡ true → same_risk net x e ≡ true → (has s e || has t e) ≡ true
    along x e kx ke h r =
        elim (or_cases (has s x) (has t x) h) [
          | inl i ↦ or_left (has s e) (has t e) (union_has net s x e us i r ke)
          | inr i ↦ or_right (has s e) (has t e) (union_has net t x e ut i r ke)
        ]

-- ---- what is in neither of two sets

without_both : (f d l : Bool) → ((f || l) && not (d || l)) ≡ ((f && not d) && not l)
without_both true true l = refl
without_both true false true = refl
without_both true false false = refl
without_both false true true = refl
without_both false true false = refl
without_both false false true = refl
without_both false false false = refl

-- links that are added to both sets aren't in the one outside the other
pub outside_both : (s t links : List LinkId) → is_rising s ≡ true → outside (union s links) (union t links) ≡ outside (outside s t) links
outside_both s t links r =
    rising_same (outside (union s links) (union t links)) (outside (outside s t) links)
    (filter_rising (λ e. not (has (union t links) e)) (union s links) (union_keeps_rising s links r))
    (filter_rising (λ e. not (has links e)) (outside s t) (filter_rising (λ e. not (has t e)) s r)) same
  where
    same : (e : LinkId) → has (outside (union s links) (union t links)) e ≡ has (outside (outside s t) links) e
    same e =
        has-filter (λ x. not (has (union t links) x)) (union s links) e
        ∙ rw (has-union s links e, has-union t links e) (without_both (has s e) (has t e) (has links e))
        ∙ sym (has-filter (λ x. not (has links x)) (outside s t) e ∙ ap (λ b. b && not (has links e)) (has-filter (λ x. not (has t x)) s e))

-- a filter keeps no more of what another one kept
pub filter_fewer : (p q : LinkId → Bool) (s : List LinkId) → length (filter p (filter q s)) ≤ length (filter p s)
filter_fewer p q [] = omega arith
filter_fewer p q (x ∷ s) = go (q x) (p x) refl refl (filter_fewer p q s)
  where
    go : (b c : Bool) → q x ≡ b → p x ≡ c → length (filter p (filter q s)) ≤ length (filter p s) → length (filter p (filter q (x ∷ s))) ≤ length (filter p (x ∷ s))
    go true true eb ec ih = rw (eb, ec) (omega (arith, ih))
    go true false eb ec ih = rw (eb, ec) ih
    go false true eb ec ih = rw (eb, ec) (omega (arith, ih))
    go false false eb ec ih = rw (eb, ec) ih
