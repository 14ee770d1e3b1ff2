-- What a search by halves finds in a list that rises: where a test turns, and the first element that is asked for.
use Rattle.std.specs.Prelude.{◌≡◌, ℕ, zero, suc, ◌<◌, ◌≤◌, Bool, true, false, ◌&&◌, ◌==◌, List, [], ◌∷◌, Some, None, length, refl, slice_get, get_or, find, filter, cond, Result, is_ok, ◌⊎◌}
use Rattle.std.specs.List.{All}
use Rattle.std.specs.List.Sorted.{IsNonDecreasingBy, IsPartitionedBy, IsPartitionPoint, IsBinarySearchResult, IsSearchInRange}
use Rattle.std.specs.Ordering.{nat_cmp, is_eq, ordering_index, ordering_then}
use Rattle.std.specs.declared.cmp.Ordering.{Ordering}
use Rattle.std.specs.declared.cmp.Ordering.TheVariants.{Less, Greater}
use Rattle.std.specs.declared.result.Result.TheVariants.{Ok, Err}
use Rattle.std.proofs.Common.{sym, ap, ◌∙◌, arith, inl, inr}
use Rattle.std.proofs.Math.Nat.{eq-or-lt_of_le}
use Rattle.std.proofs.lemmas.Bool.{cases_lt}
use Rattle.std.proofs.lemmas.Bool.Decides.{nat_tests}
use Rattle.std.proofs.lemmas.List.Folds.{list_any_at, list_any_none}
use Rattle.std.proofs.lemmas.Option.{slice_get-get_or, slice_get_read, same_Some}
use Rattle.wi_base.proofs.Cases.{by_test}
use Rattle.wi_cert.specs.declared.row.Row.{Row}
use Rattle.wi_cert.specs.Order.{pair_below, row_below}
use Rattle.wi_accept.specs.Followers.{is_listed}
use Rattle.wi_check.specs.private.Lists.{Rises, is_row_of, is_row_to}

-- how elements that are looked up stand to the one that is asked for
abbrev pub pair_order : ℕ → ℕ → ℕ × ℕ → Ordering
pair_order p g x = ordering_then (nat_cmp x.0 p) (nat_cmp x.1 g)

abbrev pub row_order : ℕ → ℕ → ℕ → Row → Ordering
row_order p g q r = ordering_then (ordering_then (nat_cmp r.p p) (nat_cmp r.g g)) (nat_cmp r.q q)

pair_rises : (p g : ℕ) (x y : ℕ × ℕ) → pair_below x y ≡ true → ordering_index (pair_order p g x) ≤ ordering_index (pair_order p g y)
pair_rises p g x y h = grind (arith, nat_tests)

pair_equal : (p g : ℕ) (x : ℕ × ℕ) → (x.0 == p && x.1 == g) ≡ is_eq (pair_order p g x)
pair_equal p g x = grind (arith, nat_tests)

row_rises : (p g q : ℕ) (x y : Row) → row_below x y ≡ true → ordering_index (row_order p g q x) ≤ ordering_index (row_order p g q y)
row_rises p g q x y h = grind (arith, nat_tests)

row_equal : (p g q : ℕ) (r : Row) → (is_row_of p g r && is_row_to q r) ≡ is_eq (row_order p g q r)
row_equal p g q r = grind (arith, nat_tests)

row_once : (p g q : ℕ) (x y : Row) → row_below x y ≡ true → (is_row_of p g y && is_row_to q y) ≡ true → (is_row_of p g x && is_row_to q x) ≡ false
row_once p g q x y h k = grind (arith, nat_tests)

module _ {A : Type 0} {below : A → A → Bool} where
  rising_places : (xs : List A) → Rises below xs → (i j : ℕ) (d : A) → i ≤ j → j < length xs → (below (get_or xs i d) (get_or xs j d) ≡ true) ⊎ (i ≡ j)
  rising_places xs rise i j d le lt = elim (eq-or-lt_of_le le) [
    | inl same ↦ inr same
    | inr less ↦ inl (rise i j (get_or xs i d) (get_or xs j d) less (slice_get-get_or xs i d (omega arith)) (slice_get-get_or xs j d lt))
  ]

  -- what rises from each element to those above it rises along the list
  numbers_rise : (n : A → ℕ) (xs : List A) → Rises below xs → ((x y : A) → below x y ≡ true → n x ≤ n y) → IsNonDecreasingBy n xs
  numbers_rise n xs rise up i j d le lt = elim (rising_places xs rise i j d le lt) [
    | inl less ↦ up (get_or xs i d) (get_or xs j d) less
    | inr same ↦ omega (arith, ap (λ k. n (get_or xs k d)) same)
  ]

  -- what passes below an element that passes passes up to some place
  pub parted : (p : A → Bool) (xs : List A) → Rises below xs → ((x y : A) → below x y ≡ true → p y ≡ true → p x ≡ true) → IsPartitionedBy p xs
  parted p xs rise down i j d le lt passes = elim (rising_places xs rise i j d le lt) [
    | inl less ↦ down (get_or xs i d) (get_or xs j d) less passes
    | inr same ↦ ap (λ k. p (get_or xs k d)) same ∙ passes
  ]

-- where a search ends at a place to insert, no element is the one that is asked for
none_equal : {A : Type 0} (test : A → Bool) (order : A → Ordering) (xs : List A) (i : ℕ) → ((x : A) → test x ≡ is_eq (order x))
    → IsPartitionPoint (λ x. order x ≡ Less) (λ x. order x ≡ Greater) xs i → All (λ x. test x ≡ false) xs
none_equal test order xs i equal place k d within = elim (cases_lt k i) [
  | inl before ↦ equal (get_or xs k d) ∙ ap is_eq (place.0 k d (omega arith) before)
  | inr after ↦ equal (get_or xs k d) ∙ ap is_eq (place.1 k d after within)
]

listed_where : (xs : List (ℕ × ℕ)) (p g : ℕ) (r : Result ℕ ℕ) → Rises pair_below xs → IsSearchInRange r (length xs) → IsBinarySearchResult (pair_order p g) xs r → is_ok r ≡ is_listed xs p g
listed_where xs p g (Ok i) rise within at = sym (list_any_at (λ x. x.0 == p && x.1 == g) xs i (p, g) within (pair_equal p g (get_or xs i (p, g)) ∙ ap is_eq (at (p, g))))
listed_where xs p g (Err i) rise within at =
    sym (list_any_none (λ x. x.0 == p && x.1 == g) xs (none_equal (λ x. x.0 == p && x.1 == g) (pair_order p g) xs i (pair_equal p g)
    (at (numbers_rise (λ x. ordering_index (pair_order p g x)) xs rise (pair_rises p g)))))

-- whether a search answers Ok tells whether two numbers are listed
pub listed : (xs : List (ℕ × ℕ)) (p g : ℕ) (r : Result ℕ ℕ) (found : Bool) → Rises pair_below xs → IsSearchInRange r (length xs) → IsBinarySearchResult (pair_order p g) xs r
    → found ≡ is_ok r → found ≡ is_listed xs p g
listed xs p g r found rise within at is = is ∙ listed_where xs p g r rise within at

find_none : {A : Type 0} (test : A → Bool) (xs : List A) → All (λ x. test x ≡ false) xs → find test xs ≡ None
find_none test [] h = refl
find_none test (x ∷ xs) h = rw (h 0 x (omega arith)) (find_none test xs (λ k d within. h (suc k) d (omega arith)))

find_first : {A : Type 0} (test : A → Bool) (xs : List A) (i : ℕ) (x : A) → slice_get xs i ≡ Some x → test x ≡ true → ((k : ℕ) (y : A) → k < i → slice_get xs k ≡ Some y → test y ≡ false) → find test xs ≡ Some x
find_first test [] i x at passes before = cc
find_first test (y ∷ ys) zero x at passes before = let same : y ≡ x = same_Some y x at in rw (same, passes) refl
find_first test (y ∷ ys) (suc i) x at passes before = rw (before 0 y (omega arith) refl) (find_first test ys i x at passes (λ k z less there. before (suc k) z (omega arith) there))

find_kept : {A : Type 0} (one other : A → Bool) (xs : List A) → find other (filter one xs) ≡ find (λ x. one x && other x) xs
find_kept one other [] = refl
find_kept one other (x ∷ xs) = by_test (one x)
    (λ (e : one x ≡ true). rw e (ap (λ o. cond (other x) (Some x) o) (find_kept one other xs)))
    (λ (e : one x ≡ false). rw e (find_kept one other xs))

abbrev is_asked : ℕ → ℕ → ℕ → Row → Bool
is_asked p g q r = is_row_of p g r && is_row_to q r

-- the row at the place that a search found is the one from p with g on top to q
pub row_found : (rows : List Row) (p g q i : ℕ) (row : Row) → Rises row_below rows → i < length rows → IsBinarySearchResult (row_order p g q) rows (Ok i)
    → row ≡ get_or rows i row → Some row ≡ find (is_row_to q) (filter (is_row_of p g) rows)
row_found rows p g q i row rise within at is =
    let there : slice_get rows i ≡ Some row = slice_get_read rows (length rows) i row refl within is in
    let passes : is_asked p g q row ≡ true = row_equal p g q row ∙ ap (λ r. is_eq (row_order p g q r)) is ∙ ap is_eq (at row) in
    sym (find_kept (is_row_of p g) (is_row_to q) rows
    ∙ find_first (is_asked p g q) rows i row there passes (λ k y less here. row_once p g q y row (rise k i y row less here there) passes))

-- where a search found no row, there is none from p with g on top to q
pub row_missing : (rows : List Row) (p g q i : ℕ) → Rises row_below rows → IsBinarySearchResult (row_order p g q) rows (Err i) → None ≡ find (is_row_to q) (filter (is_row_of p g) rows)
row_missing rows p g q i rise at =
    sym (find_kept (is_row_of p g) (is_row_to q) rows
    ∙ find_none (is_asked p g q) rows (none_equal (is_asked p g q) (row_order p g q) rows i (row_equal p g q)
    (at (numbers_rise (λ r. ordering_index (row_order p g q r)) rows rise (row_rises p g q)))))
