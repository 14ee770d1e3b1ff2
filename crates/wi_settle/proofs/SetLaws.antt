-- Sets that are within others, and what is left of them outside others.
use Rattle.std.proofs.Common.{◌≡◌, ℕ, ◌+◌, ◌≤◌, Bool, true, false, not, ◌&&◌, List, [], ◌∷◌, length, drop, slice_get, Some, refl, arith, ap, inl, inr, sym, ◌∙◌}
use Rattle.std.proofs.lemmas.Bool.{and_parts, and_from, not-true, not_from_false, or_cases, false_from_ne_true, true≢false}
use Rattle.std.proofs.lemmas.List.{drop_all}
use Rattle.std.proofs.lemmas.List.FromFn.{length-map-range_with_len}
use Rattle.wi_labels.proofs.HeaderLemmas.{drop_at}
use Rattle.wi_net.specs.declared.parts.LinkId.{LinkId}
use Rattle.wi_net.specs.declared.bounds.Bounds.{Bounds}
use Rattle.wi_net.specs.LinkSet.{has, is_rising, is_apart, is_within, outside, with_link}
use Rattle.wi_net.specs.RiskGroups.{union}
use Rattle.wi_net.specs.Net.{Net, all_links, is_link, links_where, same_risk, widened}
use Rattle.wi_net.proofs.SetLemmas.{has-filter, has-links_where, within_has, within_from, apart_has, apart_from, union_has, union_link, same_risk_flip}
use Rattle.wi_net.proofs.CountLemmas.{bool_same, union_from}
use Rattle.wi_net.proofs.RisingLemmas.{filter_rising, rising_same}
use Rattle.wi_net.proofs.WidenLemmas.{union_keeps_rising, union_rising}
use Rattle.wi_outage.proofs.Counting.{besides, count_all}
use Rattle.wi_outage.proofs.Unions.{in_union, union_first, union_second, whole_rising}

-- ---- within

pub within_self : (s : List LinkId) → is_within s s ≡ true
within_self s = within_from s s (λ e h. h)

pub within_union : (s t : List LinkId) → is_within s (union s t) ≡ true
within_union s t = within_from s (union s t) (λ e h. union_first s t e h)

pub within_on : (s t u : List LinkId) → is_within s t ≡ true → is_within t u ≡ true → is_within s u ≡ true
within_on s t u h k = within_from s u (λ e i. within_has t u e k (within_has s t e h i))

-- what is apart from a set is apart from what is within it
pub apart_within : (s t u : List LinkId) → is_apart s u ≡ true → is_within t u ≡ true → is_apart s t ≡ true
apart_within s t u h k =
    apart_from s t (λ e i. false_from_ne_true (has t e) (λ j. true≢false (sym (within_has t u e k j) ∙ apart_has s u e h i)))

pub within_second : (s t : List LinkId) → is_within t (union s t) ≡ true
within_second s t = within_from t (union s t) (λ e h. union_second s t e h)

-- a set with what is within it is itself
pub union_within : (s t : List LinkId) → is_rising s ≡ true → is_within t s ≡ true → union s t ≡ s
union_within s t r k = rising_same (union s t) s (union_keeps_rising s t r) r same
  where
    same : (e : LinkId) → has (union s t) e ≡ has s e
    same e =
        bool_same (has (union s t) e) (has s e)
        (λ h. elim (or_cases (has s e) (has t e) (in_union s t e h)) [ inl i ↦ i | inr i ↦ within_has t s e k i ])
        (λ h. union_first s t e h)

-- ---- outside

pub outside_apart : (s t : List LinkId) → is_apart (outside s t) t ≡ true
outside_apart s t =
    apart_from (outside s t) t (λ e h. not-true (has t e) ((and_parts (has s e) (not (has t e)) (sym (has-filter (λ x. not (has t x)) s e) ∙ h)).1))

-- what is left of whole risk groups outside others is whole
pub outside_whole : (net : Net) (s t : List LinkId) → widened net s ≡ s → widened net t ≡ t → widened net (outside s t) ≡ outside s t
outside_whole net s t us ut = ap (widened net) is ∙ union_from net left along ∙ sym is
  where
    left : LinkId → Bool
    left = λ e. has s e && not (has t e)

    known : (e : LinkId) → left e ≡ true → is_link net e ≡ true
    known e h = union_link net s e us ((and_parts (has s e) (not (has t e)) h).0)

    only : (e : LinkId) → (is_link net e && left e) ≡ left e
    only e = bool_same (is_link net e && left e) (left e) (λ h. (and_parts (is_link net e) (left e) h).1) (λ h. and_from (is_link net e) (left e) (known e h) h)

    is : outside s t ≡ links_where net left
    is =
        rising_same (outside s t) (links_where net left) (filter_rising (λ e. not (has t e)) s (whole_rising net s us)) (union_rising left (length net.links))
        (λ e. has-filter (λ x. not (has t x)) s e ∙ sym (has-links_where net left e ∙ only e))

    along : (x e : LinkId) → is_link net x ≡ true → is_link net e ≡ true → left x ≡ true → same_risk net x e ≡ true → left e ≡ true
    along x e kx ke h r =
        let parts = and_parts (has s x) (not (has t x)) h in
        and_from (has s e) (not (has t e)) (union_has net s x e us parts.0 r ke)
        (not_from_false (has t e)
        (false_from_ne_true (has t e) (λ i. true≢false (sym (union_has net t e x ut i (same_risk_flip net x e r) kx) ∙ not-true (has t x) parts.1))))

-- and so are the links that aren't in a set of them
pub others_whole : (net : Net) (t : List LinkId) → widened net t ≡ t → widened net (links_where net (λ e. not (has t e))) ≡ links_where net (λ e. not (has t e))
others_whole net t ut =
    union_from net (λ e. not (has t e)) (λ x e kx ke h r.
    not_from_false (has t e)
    (false_from_ne_true (has t e) (λ i. true≢false (sym (union_has net t e x ut i (same_risk_flip net x e r) kx) ∙ not-true (has t x) h))))

-- ---- a set that takes in what is outside another, link by link

pub insert_on : (more known set new total : List LinkId) (i : ℕ) (e : LinkId) → slice_get more i ≡ Some e → has known e ≡ false → new ≡ with_link set e → union set (outside (drop i more) known) ≡ total
    → union new (outside (drop (i + 1) more) known) ≡ total
insert_on more known set new total i e is free new_is h =
    let left : union set (outside (e ∷ drop (i + 1) more) known) ≡ total = rw (drop_at more i e is) at h in
    let first : outside (e ∷ drop (i + 1) more) known ≡ e ∷ outside (drop (i + 1) more) known = rw free refl in
    rw new_is (rw first at left)

pub insert_off : (more known set total : List LinkId) (i : ℕ) (e : LinkId) → slice_get more i ≡ Some e → has known e ≡ true → union set (outside (drop i more) known) ≡ total
    → union set (outside (drop (i + 1) more) known) ≡ total
insert_off more known set total i e is free h =
    let left : union set (outside (e ∷ drop (i + 1) more) known) ≡ total = rw (drop_at more i e is) at h in
    let first : outside (e ∷ drop (i + 1) more) known ≡ outside (drop (i + 1) more) known = rw free refl in
    rw first at left

pub insert_all : (more known set total : List LinkId) (i : ℕ) → length more ≤ i → union set (outside (drop i more) known) ≡ total → set ≡ total
insert_all more known set total i all h =
    let left : union set (outside [] known) ≡ total = rw (drop_all i more all) at h in
    left

-- ---- the risk groups that may fail, once all links were counted

pub counted_all : (net : Net) (bounds : Bounds) (i n : ℕ) → length net.links ≤ i → n + besides net bounds.up bounds.down (drop i (all_links net)) ≡ besides net bounds.up bounds.down (all_links net) → n ≡ besides net bounds.up bounds.down (all_links net)
counted_all net bounds i n all h =
    let make : ℕ → LinkId = λ j. record { 0 = j } in
    count_all net bounds.up bounds.down (all_links net) i n (omega (arith, length-map-range_with_len make 0 (length net.links), all)) h
