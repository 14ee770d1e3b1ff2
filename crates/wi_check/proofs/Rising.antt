-- A list whose items each stand above the one before rises: each item stands below all that come after it.
use Rattle.std.specs.Prelude.{◌≡◌, ℕ, zero, suc, ◌+◌, ◌≤◌, Bool, true, false, List, [], ◌∷◌, ◌++◌, Some, length, slice_get, get_or, filter, refl}
use Rattle.std.specs.List.{All}
use Rattle.std.specs.Option.{option_map_or}
use Rattle.std.proofs.Common.{sym, ap, ◌∙◌, subst, arith}
use Rattle.std.proofs.lemmas.List.Elements.{All-filter, filter_passes}
use Rattle.std.proofs.lemmas.Option.{slice_get-get_or, get_or_from_slice_get, slice_get_within, same_Some}
use Rattle.wi_base.proofs.Cases.{by_test}
use Rattle.wi_cert.specs.declared.shown.Shown.{Shown}
use Rattle.wi_cert.specs.declared.closed.Closed.{Closed}
use Rattle.wi_cert.specs.declared.row.Row.{Row}
use Rattle.wi_cert.specs.Order.{pair_below, row_below, last_of, is_next, EachAdded}
use Rattle.wi_cert.specs.Shown.{IsShown}
use Rattle.wi_cert.specs.Closed.{IsRow, IsClosed}
use Rattle.wi_accept.proofs.RisingRows.{last_added, pair_below_trans, row_below_trans}
use Rattle.wi_check.specs.declared.rows.Rows.{Rows}
use Rattle.wi_check.specs.private.Lists.{Rises}
use Rattle.wi_check.specs.private.Rows.{HaveTerms, AreRows}

module _ {A : Type 0} where
  -- the items after the first rise, too, and stand above it
  pub rises_after : (below : A → A → Bool) (x : A) (xs : List A) → Rises below (x ∷ xs) → Rises below xs
  rises_after below x xs rise i j a b less at there = rise (suc i) (suc j) a b (omega arith) at there

  pub all_above : (below : A → A → Bool) (x : A) (xs : List A) → Rises below (x ∷ xs) → All (λ y. below x y ≡ true) xs
  all_above below x xs rise k d within = rise 0 (suc k) x (get_or xs k d) (omega arith) refl (slice_get-get_or xs k d within)

  none_rise : (below : A → A → Bool) → Rises below []
  none_rise below i j a b less at there = cc

  rises_from : (below : A → A → Bool) (x : A) (xs : List A) → All (λ y. below x y ≡ true) xs → Rises below xs → Rises below (x ∷ xs)
  rises_from below x xs above rise i zero a b less at there = absurd (omega arith)
  rises_from below x xs above rise zero (suc j) a b less at there =
      subst (λ y. below y b ≡ true) (same_Some x a at) (subst (λ y. below x y ≡ true) (get_or_from_slice_get xs j b b there) (above j b (slice_get_within xs j b there)))
  rises_from below x xs above rise (suc i) (suc j) a b less at there = rise i j a b (omega arith) at there

  -- the items that pass a test rise by another order, where that order is the first one among them
  module _ (below other : A → A → Bool) (test : A → Bool) (implies : (x y : A) → test x ≡ true → test y ≡ true → below x y ≡ true → other x y ≡ true) where
    above_kept : (x : A) (xs : List A) → test x ≡ true → All (λ y. below x y ≡ true) xs → All (λ y. other x y ≡ true) (filter test xs)
    above_kept x xs e above k d within = implies x (get_or (filter test xs) k d) e (filter_passes test xs k d within) (All-filter test (λ y. below x y ≡ true) xs above k d within)

    pub filter_rises : (xs : List A) → Rises below xs → Rises other (filter test xs)
    filter_rises [] rise = none_rise other
    filter_rises (x ∷ xs) rise = by_test (test x)
        (λ (e : test x ≡ true). rw e (rises_from other x (filter test xs) (above_kept x xs e (all_above below x xs rise)) (filter_rises xs (rises_after below x xs rise))))
        (λ (e : test x ≡ false). rw e (filter_rises xs (rises_after below x xs rise)))

module _ {A : Type 0} (below : A → A → Bool) (MayFollow : List A → A → Type 0)
    (trans : (a b c : A) → below a b ≡ true → below b c ≡ true → below a c ≡ true) (next : (before : List A) (x : A) → MayFollow before x → is_next below before x ≡ true) where
  above_last : (before xs : List A) (last : A) → last_of before ≡ Some last → EachAdded MayFollow before xs → (k : ℕ) (b : A) → slice_get xs k ≡ Some b → below last b ≡ true
  above_last before [] last at each k b here = cc
  above_last before (x ∷ xs) last at each zero b here =
      let up : below last x ≡ true = ap (λ o. option_map_or (λ y. below y x) o true) (sym at) ∙ next before x each.0 in
      subst (λ y. below last y ≡ true) (same_Some x b here) up
  above_last before (x ∷ xs) last at each (suc k) b here =
      let up : below last x ≡ true = ap (λ o. option_map_or (λ y. below y x) o true) (sym at) ∙ next before x each.0 in
      trans last x b up (above_last (before ++ x ∷ []) xs x (last_added before x) each.1 k b here)

  -- what each added item keeps, where an order is transitive and each item stands above the last before it
  pub rises : (before xs : List A) → EachAdded MayFollow before xs → Rises below xs
  rises before [] each i j a b less at there = cc
  rises before (x ∷ xs) each i zero a b less at there = absurd (omega arith)
  rises before (x ∷ xs) each zero (suc j) a b less at there =
      subst (λ y. below y b ≡ true) (same_Some x a at) (above_last (before ++ x ∷ []) xs x (last_added before x) each.1 j b there)
  rises before (x ∷ xs) each (suc i) (suc j) a b less at there = rises (before ++ x ∷ []) xs each.1 i j a b (omega arith) at there

-- what holds of each item that may follow holds of all
pub each_has : {A : Type 0} (MayFollow : List A → A → Type 0) (P : A → Type 0) → ((before : List A) (x : A) → MayFollow before x → P x) → (before xs : List A) → EachAdded MayFollow before xs → All P xs
each_has MayFollow P has before [] each k d within = absurd (omega arith)
each_has MayFollow P has before (x ∷ xs) each zero d within = has before x each.0
each_has MayFollow P has before (x ∷ xs) each (suc k) d within = each_has MayFollow P has (before ++ x ∷ []) xs each.1 k d (omega arith)

added_pairs : (xs : List (ℕ × ℕ)) → EachAdded (λ before x. is_next pair_below before x ≡ true) [] xs → Rises pair_below xs
added_pairs xs each = rises pair_below (λ before x. is_next pair_below before x ≡ true) pair_below_trans (λ before x h. h) [] xs each

-- heads, pairs and rows that have a text under what is shown
pub heads_rise : (s : Shown) (c : Closed) (heads : List (ℕ × ℕ)) → IsClosed s c → heads ≡ c.heads → Rises pair_below heads
heads_rise s c heads is same = subst (Rises pair_below) (sym same) (added_pairs c.heads is.heads)

pub pairs_rise : (s : Shown) (c : Closed) (pairs : List (ℕ × ℕ)) → IsClosed s c → pairs ≡ c.pairs → Rises pair_below pairs
pairs_rise s c pairs is same = subst (Rises pair_below) (sym same) (added_pairs c.pairs is.pairs)

pub rows_are : (s : Shown) (c : Closed) (rows : Rows) → IsShown s → IsClosed s c → rows.terms ≡ s.terms → rows.rows.now ≡ c.rows → AreRows rows
rows_are s c rows shown is terms same = record {
  few = subst (λ n. n ≤ 5) (sym terms) shown.terms;
  terms = subst (λ n. HaveTerms n rows.rows.now) (sym terms) (subst (HaveTerms s.terms) (sym same)
      (each_has (IsRow s) (λ (r : Row). length r.weight ≡ s.terms + 1) (λ before r may. may.weight) [] c.rows is.rows));
  rise = subst (Rises row_below) (sym same) (rises row_below (IsRow s) row_below_trans (λ before r may. may.next) [] c.rows is.rows);
}
