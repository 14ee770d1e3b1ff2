-- What a walk along two lists at once finds, whose symbols rise: the first symbol of the one that the other lacks.
use Rattle.std.specs.Prelude.{◌≡◌, ℕ, ◌<◌, ◌≤◌, true, false, not, ◌==◌, List, [], ◌∷◌, Some, None, cond, refl, get_or, nat_lt}
use Rattle.std.specs.List.{All}
use Rattle.std.specs.Ordering.{nat_cmp}
use Rattle.std.specs.declared.cmp.Ordering.TheVariants.{Less, Equal, Greater}
use Rattle.std.proofs.Common.{sym, ap, ◌∙◌, subst, arith}
use Rattle.std.proofs.lemmas.Bool.Decides.{nat_tests}
use Rattle.std.proofs.lemmas.List.Elements.{All-cons, All-tail, All-weaker}
use Rattle.std.proofs.lemmas.List.Folds.{list_any_at, list_any_none}
use Rattle.wi_cert.specs.Order.{pair_below}
use Rattle.wi_accept.specs.Followers.{pairs_of}
use Rattle.wi_check.proofs.Rising.{rises_after, all_above, filter_rises}
use Rattle.wi_check.specs.private.Lists.{Rises, symbol_below, has_symbol, first_absent}

is_less : (a b : ℕ) → nat_lt a b ≡ true → a < b
is_less a b h = grind (arith, nat_tests)

differ : (a b : ℕ) → (a ≡ b → ⊥) → (a == b) ≡ false
differ a b h = grind (arith, nat_tests)

equals : (a b : ℕ) → a ≡ b → (a == b) ≡ true
equals a b h = grind (arith, nat_tests)

less_of : (a b : ℕ) → Less ≡ nat_cmp a b → a < b
less_of a b h = grind (arith, nat_tests)

equal_of : (a b : ℕ) → Equal ≡ nat_cmp a b → a ≡ b
equal_of a b h = grind (arith, nat_tests)

greater_of : (a b : ℕ) → Greater ≡ nat_cmp a b → b < a
greater_of a b h = grind (arith, nat_tests)

module _ {A B : Type 0} where
  -- what stands below all that are wanted is none of them
  skipped : (wanted : List (A × ℕ)) (there : B × ℕ) (rest : List (B × ℕ)) → All (λ w. there.1 < w.1) wanted → first_absent wanted rest ≡ first_absent wanted (there ∷ rest)
  skipped [] there rest above = refl
  skipped (w ∷ ws) there rest above =
      let less : there.1 < w.1 = above 0 w (omega arith) in
      let not_it : (there.1 == w.1) ≡ false = differ there.1 w.1 (λ e. absurd (omega (arith, e))) in
      rw not_it (ap (λ o. cond (not (has_symbol rest w.1)) (Some w.1) o) (skipped ws there rest (All-tail (λ (y : A × ℕ). there.1 < y.1) w ws above)))

  module _ (first : A × ℕ) (later left : List (A × ℕ)) (there : B × ℕ) (rest after : List (B × ℕ)) (is_left : left ≡ first ∷ later) (is_after : after ≡ there ∷ rest) where
    both : first_absent (first ∷ later) (there ∷ rest) ≡ first_absent left after
    both = ap (λ l. first_absent l (there ∷ rest)) (sym is_left) ∙ ap (first_absent left) (sym is_after)

    -- those that are wanted later stand above what isn't above the first
    above_later : there.1 ≤ first.1 → Rises symbol_below left → All (λ w. there.1 < w.1) later
    above_later below rise = All-weaker (λ y. symbol_below first y ≡ true) (λ w. there.1 < w.1) (λ w h. omega (arith, is_less first.1 w.1 h)) later
        (all_above symbol_below first later (subst (Rises symbol_below) is_left rise))

    -- an element that stands below the first wanted is left behind
    pub walk_below : Less ≡ nat_cmp there.1 first.1 → Rises symbol_below left → first_absent left rest ≡ first_absent left after
    walk_below order rise =
        let less : there.1 < first.1 = less_of there.1 first.1 order in
        ap (λ l. first_absent l rest) is_left ∙ skipped (first ∷ later) there rest (All-cons (λ w. there.1 < w.1) first later less (above_later (omega arith) rise)) ∙ both

    -- so is one that is wanted, and then wanted no more
    pub walk_same : Equal ≡ nat_cmp there.1 first.1 → Rises symbol_below left → first_absent later rest ≡ first_absent left after
    walk_same order rise =
        let same : there.1 ≡ first.1 = equal_of there.1 first.1 order in
        let it : (there.1 == first.1) ≡ true = equals there.1 first.1 same in
        let step : first_absent later (there ∷ rest) ≡ first_absent (first ∷ later) (there ∷ rest) = rw it refl in
        skipped later there rest (above_later (omega arith) rise) ∙ step ∙ both

    -- past the first that is wanted there is none of its kind
    pub walk_past : Greater ≡ nat_cmp there.1 first.1 → Rises symbol_below after → Some first.1 ≡ first_absent left after
    walk_past order rise =
        let up : first.1 < there.1 = greater_of there.1 first.1 order in
        let not_it : (there.1 == first.1) ≡ false = differ there.1 first.1 (λ e. absurd (omega (arith, e))) in
        let none : has_symbol rest first.1 ≡ false = list_any_none (λ x. x.1 == first.1) rest
        (All-weaker (λ y. symbol_below there y ≡ true) (λ x. (x.1 == first.1) ≡ false) (λ x h. differ x.1 first.1 (λ e. absurd (omega (arith, e, is_less there.1 x.1 h)))) rest
        (all_above symbol_below there rest (subst (Rises symbol_below) is_after rise))) in
        let step : Some first.1 ≡ first_absent (first ∷ later) (there ∷ rest) = rw (not_it, none) refl in
        step ∙ both

    pub left_rises : Rises symbol_below left → Rises symbol_below later
    left_rises rise = rises_after symbol_below first later (subst (Rises symbol_below) is_left rise)

    pub after_rises : Rises symbol_below after → Rises symbol_below rest
    after_rises rise = rises_after symbol_below there rest (subst (Rises symbol_below) is_after rise)

-- the symbols of a list are all among its own
pub own_present : {A : Type 0} (xs : List (A × ℕ)) → All (λ x. has_symbol xs x.1 ≡ true) xs
own_present xs k d within = list_any_at (λ x. x.1 == (get_or xs k d).1) xs k d within (equals (get_or xs k d).1 (get_or xs k d).1 refl)

pub none_absent : {A B : Type 0} (wanted : List (A × ℕ)) (listed : List (B × ℕ)) → All (λ x. has_symbol listed x.1 ≡ true) wanted → first_absent wanted listed ≡ None
none_absent [] listed all = refl
none_absent (w ∷ ws) listed all = rw (all 0 w (omega arith)) (none_absent ws listed (All-tail (λ x. has_symbol listed x.1 ≡ true) w ws all))

by_symbol : (a : ℕ) (x y : ℕ × ℕ) → (x.0 == a) ≡ true → (y.0 == a) ≡ true → pair_below x y ≡ true → symbol_below x y ≡ true
by_symbol a x y e f h = grind (arith, nat_tests)

-- the pairs of an upper symbol rise by the lower one, and so do the heads of a spot by theirs
pub rises_kept : (a : ℕ) (xs those : List (ℕ × ℕ)) → those ≡ pairs_of xs a → Rises pair_below xs → Rises symbol_below those
rises_kept a xs those are rise = subst (Rises symbol_below) (sym are) (filter_rises pair_below symbol_below (λ x. x.0 == a) (by_symbol a) xs rise)
