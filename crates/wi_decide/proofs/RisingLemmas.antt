-- Heads, pairs and rows that rise, as a certificate has them: each may follow those before it.
use Rattle.std.proofs.Common.{◌≡◌, ℕ, zero, suc, ◌+◌, ◌-◌, Bool, true, false, ◌&&◌, ◌||◌, nat_lt, nat_eq, List, [], ◌∷◌, ◌++◌, length, get_or, slice_get, filter, Option, Some, refl, sym, ap, ◌∙◌, arith, length-append}
use Rattle.std.specs.Fn.{Called, ComputesKey}
use Rattle.std.specs.List.{All, AllByRecursion, IsDistinct}
use Rattle.std.specs.List.Sorted.{IsSortedBy, IsSortedByKey, IsStrictlySortedBy}
use Rattle.std.specs.Option.{option_map_or}
use Rattle.std.specs.Ordering.{is_lt, nat_cmp, ordering_then}
use Rattle.std.specs.declared.cmp.Ordering.{Ordering}
use Rattle.std.proofs.lemmas.Bool.Decides.{nat_tests}
use Rattle.std.proofs.lemmas.Fn.{always_returns_same}
use Rattle.std.proofs.lemmas.List.Elements.{recursion_from_All, All-nil, All-cons, All-head, All-tail}
use Rattle.std.proofs.lemmas.Map.Keys.{sorted_head, sorted_tail, IsDistinct-head, IsDistinct-tail}
use Rattle.wi_pds.specs.Pairs.{pair_cmp}
use Rattle.wi_saturate.proofs.Elements.{get_last}
use Rattle.wi_cert.specs.declared.row.Row.{Row}
use Rattle.wi_cert.specs.Order.{pair_below, row_below, is_next, last_of, EachAdded}
use Rattle.wi_accept.proofs.OrderLemmas.{then_assoc}
use denote.Param.Members.{Mut}
use denote.Ref.{Bor}

-- each item is above the one before it, the first above one that is given
abbrev pub RisesFrom : {A : Type 0} → (A → A → Bool) → A → List A → Type 0
RisesFrom below x [] = Unit {0}
RisesFrom below x (y ∷ ys) = (below x y ≡ true) × RisesFrom below y ys

abbrev pub Rises : {A : Type 0} → (A → A → Bool) → List A → Type 0
Rises below [] = Unit {0}
Rises below (x ∷ xs) = RisesFrom below x xs

module _ {A : Type 0} (below : A → A → Bool) (P : A → Type 0) (May : List A → A → Type 0) (may : (before : List A) (x : A) → is_next below before x ≡ true → P x → May before x) where
  last_is : (before : List A) (x : A) → last_of (before ++ x ∷ []) ≡ Some x
  last_is before x =
      let count : length (before ++ x ∷ []) - 1 ≡ length before = omega (arith, length-append before (x ∷ [])) in
      ap (λ n. slice_get (before ++ x ∷ []) n) count ∙ get_last before x

  next_is : (before : List A) (x y : A) → below x y ≡ true → is_next below (before ++ x ∷ []) y ≡ true
  next_is before x y h = ap (λ (o : Option A). option_map_or (λ (last : A). below last y) o true) (last_is before x) ∙ h

  added_behind : (before : List A) (x : A) (xs : List A) → RisesFrom below x xs → AllByRecursion P xs → EachAdded May (before ++ x ∷ []) xs
  added_behind before x [] h p = tt
  added_behind before x (y ∷ ys) h p = (may (before ++ x ∷ []) y (next_is before x y h.0) p.0, added_behind (before ++ x ∷ []) y ys h.1 p.1)

  added_first : (xs : List A) → Rises below xs → AllByRecursion P xs → EachAdded May [] xs
  added_first [] h p = tt
  added_first (x ∷ xs) h p = (may [] x refl p.0, added_behind [] x xs h p.1)

  -- items that rise are each added
  pub added : (xs : List A) → Rises below xs → All P xs → EachAdded May [] xs
  added xs h p = added_first xs h (recursion_from_All P xs p)

-- some of the items that rise rise, too
module _ {A : Type 0} (below : A → A → Bool) (trans : (a b c : A) → below a b ≡ true → below b c ≡ true → below a c ≡ true) (p : A → Bool) where
  from_lower : (x y : A) (xs : List A) → below x y ≡ true → RisesFrom below y xs → RisesFrom below x xs
  from_lower x y [] low h = tt
  from_lower x y (z ∷ xs) low h = (trans x y z low h.0, h.1)

  filter_from : (x : A) (xs : List A) → RisesFrom below x xs → RisesFrom below x (filter p xs)
  filter_from x [] h = tt
  filter_from x (y ∷ ys) h = go (p y) refl (filter_from y ys h.1) (filter_from x ys (from_lower x y ys h.0 h.1))
    where
      go : (b : Bool) → p y ≡ b → RisesFrom below y (filter p ys) → RisesFrom below x (filter p ys) → RisesFrom below x (filter p (y ∷ ys))
      go true e kept left = rw e (h.0, kept)
      go false e kept left = rw e left

  later : (x : A) (xs : List A) → RisesFrom below x xs → Rises below xs
  later x [] h = tt
  later x (y ∷ ys) h = h.1

  pub filter_rises : (xs : List A) → Rises below xs → Rises below (filter p xs)
  filter_rises [] h = tt
  filter_rises (x ∷ xs) h = go (p x) refl (filter_from x xs h) (filter_rises xs (later x xs h))
    where
      go : (b : Bool) → p x ≡ b → RisesFrom below x (filter p xs) → Rises below (filter p xs) → Rises below (filter p (x ∷ xs))
      go true e kept left = rw e kept
      go false e kept left = rw e left

-- what holds of all items, and the test, holds of those that are kept
pub all_filter : {A : Type 0} (P Q : A → Type 0) (p : A → Bool) → ((x : A) → P x → p x ≡ true → Q x) → (xs : List A) → All P xs → All Q (filter p xs)
all_filter P Q p both [] h = All-nil Q
all_filter P Q p both (x ∷ xs) h = go (p x) refl (all_filter P Q p both xs (All-tail P x xs h))
  where
    go : (b : Bool) → p x ≡ b → All Q (filter p xs) → All Q (filter p (x ∷ xs))
    go true e rest = rw e (All-cons Q x (filter p xs) (both x (All-head P x xs h) e) rest)
    go false e rest = rw e rest

nat_less : (a b : ℕ) → is_lt (nat_cmp a b) ≡ nat_lt a b
nat_less a b = grind (arith, nat_tests)

then_less : (a b : ℕ) (o : Ordering) → is_lt (ordering_then (nat_cmp a b) o) ≡ (nat_lt a b || (nat_eq a b && is_lt o))
then_less a b o = grind (arith, nat_tests)

-- pairs in the order of heads
pairs_from : (x : ℕ × ℕ) (xs : List (ℕ × ℕ)) → IsStrictlySortedBy pair_cmp (x ∷ xs) → RisesFrom pair_below x xs
pairs_from x [] h = tt
pairs_from x (y ∷ ys) h = (
  sym (then_less x.0 y.0 (nat_cmp x.1 y.1) ∙ ap (λ t. nat_lt x.0 y.0 || (nat_eq x.0 y.0 && t)) (nat_less x.1 y.1)) ∙ ap is_lt (sorted_head pair_cmp x (y ∷ ys) h).0,
  pairs_from y ys (sorted_tail pair_cmp x (y ∷ ys) h),
)

pub pairs_rise : (xs : List (ℕ × ℕ)) → IsStrictlySortedBy pair_cmp xs → Rises pair_below xs
pairs_rise [] h = tt
pairs_rise (x ∷ xs) h = pairs_from x xs h

-- rows are sorted by their spot, symbol and target
abbrev Key : Type 0
Key = ℕ × ℕ × ℕ

abbrev key_of : Row → Key
key_of r = (r.p, r.g, r.q)

abbrev key_cmp : Key → Key → Ordering
key_cmp a b = ordering_then (ordering_then (nat_cmp a.0 b.0) (nat_cmp a.1 b.1)) (nat_cmp a.2 b.2)

key_less : (a b : Row) → is_lt (key_cmp (key_of a) (key_of b)) ≡ row_below a b
key_less a b =
    ap is_lt (then_assoc (nat_cmp a.p b.p) (nat_cmp a.g b.g) (nat_cmp a.q b.q))
    ∙ then_less a.p b.p (ordering_then (nat_cmp a.g b.g) (nat_cmp a.q b.q))
    ∙ ap (λ t. nat_lt a.p b.p || (nat_eq a.p b.p && t)) (then_less a.g b.g (nat_cmp a.q b.q) ∙ ap (λ t. nat_lt a.g b.g || (nat_eq a.g b.g && t)) (nat_less a.q b.q))

pub sorted_rows : {F : Type 0} {g : Mut F (Bor Row × Unit {0}) Key} {f : F} (rows : List Row) → ((key : Row → Key) → ComputesKey g key f → IsSortedByKey key key_cmp rows)
    → ((a : Bor Row × Unit {0}) (r : Key) (f' : F) → Called g f a r f' → (r ≡ key_of a.0.now) × (f' ≡ f)) → IsSortedBy row_below rows
sorted_rows {g = g} {f = f} rows up h k d low high =
    sym (key_less (get_or rows (k + 1) d) (get_or rows k d)) ∙ up key_of (always_returns_same g (λ a r. r ≡ key_of a.0.now) f h) k d low high

-- two rows are for one summary
abbrev pub is_same : Row → Row → Bool
is_same a b = nat_eq a.p b.p && (nat_eq a.g b.g && nat_eq a.q b.q)

pub same_turned : (a b : Row) → is_same a b ≡ is_same b a
same_turned a b = grind (arith, nat_tests)

above : (a b : Row) → row_below b a ≡ false → is_same a b ≡ false → row_below a b ≡ true
above a b h k = grind (arith, nat_tests)

sorted_later : (x : Row) (xs : List Row) → IsSortedBy row_below (x ∷ xs) → IsSortedBy row_below xs
sorted_later x xs h k d low high =
    let next : suc (k + 1) ≡ suc k + 1 = omega arith in
    ap (λ n. row_below (get_or (x ∷ xs) n d) (get_or xs k d)) next ∙ h (suc k) d (omega arith) (omega (arith, high))

rows_from : (x : Row) (xs : List Row) → IsSortedBy row_below (x ∷ xs) → IsDistinct is_same (x ∷ xs) → RisesFrom row_below x xs
rows_from x [] h k = tt
rows_from x (y ∷ ys) h k = (
  above x y (h zero x (omega arith) (omega arith)) (IsDistinct-head is_same x (y ∷ ys) k).0,
  rows_from y ys (sorted_later x (y ∷ ys) h) (IsDistinct-tail is_same x (y ∷ ys) k),
)

-- sorted rows of which no two are for one summary rise
pub rows_rise : (xs : List Row) → IsSortedBy row_below xs → IsDistinct is_same xs → Rises row_below xs
rows_rise [] h k = tt
rows_rise (x ∷ xs) h k = rows_from x xs h k
