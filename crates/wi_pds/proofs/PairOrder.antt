-- The order of heads and of pairs, and what a binary search finds in a list that rises by it.
use Rattle.std.specs.Prelude.{◌≡◌, ℕ, ◌+◌, List, length, Bool, false, slice_index_or, IsTrue, ◌↔◌, Result, is_ok, refl}
use Rattle.std.specs.List.{Contains}
use Rattle.std.specs.List.Sorted.{IsStrictlySortedBy, IsSortedBy, IsBinarySearchResult, IsSearchInRange, IsPartitionPoint}
use Rattle.std.specs.Ordering.{nat_cmp, is_lt, ordering_reverse}
use Rattle.std.specs.Cmp.{IsTotalOrder}
use Rattle.std.specs.declared.cmp.Ordering.{Ordering}
use Rattle.std.specs.declared.cmp.Ordering.TheVariants.{Less, Equal, Greater}
use Rattle.std.specs.declared.result.Result.TheVariants.{Ok, Err}
use Rattle.std.proofs.Common.{sym, subst, ◌∙◌, ap, arith, inl, inr}
use Rattle.std.proofs.lemmas.Bool.{cases_lt}
use Rattle.std.proofs.lemmas.Cmp.{then_total, on_total, nat_cmp_total}
use Rattle.std.proofs.lemmas.List.Sorted.{searchable_from_sorted}
use Rattle.std.proofs.lemmas.Map.Keys.{Less-from_sorted}
use Rattle.std.proofs.lemmas.Map.Lookups.{exact_pairs, exact_unsigned}
use Rattle.wi_pds.specs.Pairs.{pair_cmp}

pub pair_total : IsTotalOrder pair_cmp
pair_total = then_total (on_total (λ (x : ℕ × ℕ). x.0) nat_cmp_total) (on_total (λ (x : ℕ × ℕ). x.1) nat_cmp_total)

-- pairs that compare as equal are the same
pub pair_exact : (x y : ℕ × ℕ) → pair_cmp x y ≡ Equal → x ≡ y
pair_exact x y h = exact_pairs nat_cmp nat_cmp exact_unsigned exact_unsigned x y h

own_reverse : (o : Ordering) → o ≡ ordering_reverse o → o ≡ Equal
own_reverse Less h = cc
own_reverse Equal h = refl
own_reverse Greater h = cc

pub pair_tied : (x : ℕ × ℕ) → pair_cmp x x ≡ Equal
pair_tied x = own_reverse _ (pair_total.antisymm x x)

not_less : (a b : Ordering) → b ≡ ordering_reverse a → a ≡ Less → is_lt b ≡ false
not_less a b turned less = rw (turned, less) refl

sorted : (xs : List (ℕ × ℕ)) → IsStrictlySortedBy pair_cmp xs → IsSortedBy (λ a b. is_lt (pair_cmp a b)) xs
sorted xs rise k d low high = not_less _ _ (pair_total.antisymm (slice_index_or xs (k + 1) d) (slice_index_or xs k d)) (Less-from_sorted pair_cmp xs k (k + 1) d rise (omega arith) high)

in_list : (xs : List (ℕ × ℕ)) (x : ℕ × ℕ) (r : Result ℕ ℕ) (found : Bool) → IsStrictlySortedBy pair_cmp xs
    → IsSearchInRange r (length xs) → IsBinarySearchResult (λ y. pair_cmp y x) xs r → found ≡ is_ok r → IsTrue found ↔ Contains xs x
in_list xs x (Ok i) found rise within at is = (λ _. (i, within, pair_exact _ _ (at x)), λ _. is)
in_list xs x (Err i) found rise within at is = (λ yes. absurd (cc (yes, is)), λ has. absurd (nowhere has))
  where
    place : IsPartitionPoint (λ y. pair_cmp y x ≡ Less) (λ y. pair_cmp y x ≡ Greater) xs i
    place = at (searchable_from_sorted pair_total (λ (y : ℕ × ℕ). y) xs x (sorted xs rise))

    nowhere : Contains xs x → ⊥
    nowhere has =
        let tie : pair_cmp (slice_index_or xs has.0 x) x ≡ Equal = ap (λ y. pair_cmp y x) has.2 ∙ pair_tied x in
        elim (cases_lt has.0 i) [
          | inl before ↦ cc (tie, place.0 has.0 x (omega arith) before)
          | inr after ↦ cc (tie, place.1 has.0 x after has.1)
        ]

-- whether a binary search answers Ok tells whether the list, ys as it is lent, has the pair
pub search_finds : (xs ys : List (ℕ × ℕ)) (x : ℕ × ℕ) (r : Result ℕ ℕ) (found : Bool) → ys ≡ xs → IsStrictlySortedBy pair_cmp xs
    → IsSearchInRange r (length ys) → IsBinarySearchResult (λ y. pair_cmp y x) ys r → found ≡ is_ok r → IsTrue found ↔ Contains xs x
search_finds xs ys x r found same rise within at is = subst (λ l. IsTrue found ↔ Contains l x) same (in_list ys x r found (subst (λ l. IsStrictlySortedBy pair_cmp l) (sym same) rise) within at is)
