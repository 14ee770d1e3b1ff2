-- What waits, when more does.
use Rattle.std.specs.Prelude.{◌≡◌, Bool, false, ℕ, ◌+◌, ◌<◌, List, [], ◌∷◌, ◌++◌, Some, length, slice_get, get_or, refl}
use Rattle.std.specs.List.{Contains}
use Rattle.std.proofs.Common.{sym, ap, ◌∙◌, subst, inl, inr, arith, length-append}
use Rattle.std.proofs.lemmas.Option.{slice_get_read}
use Rattle.wi_pds.specs.declared.rule.Word2.TheVariants.{Two}
use Rattle.wi_saturate.specs.declared.row.Row.{Row}
use Rattle.wi_saturate.specs.declared.rules.Ruled.{Ruled}
use Rattle.wi_saturate.specs.declared.waits.Wait.{Wait}
use Rattle.wi_saturate.specs.declared.waits.Waits.{Waits}
use Rattle.std.proofs.lemmas.Bool.{false≢true}
use Rattle.wi_weight.specs.Weights.{Scale, WeightLaws, IsWeight, plus}
use Rattle.wi_saturate.specs.private.Lightest.{Noted, Covers, Lightens, Lowers}
use Rattle.wi_saturate.specs.private.Searches.{IsFirst, IsWait, AreWaits, AreHalves, HasWait}
use Rattle.wi_saturate.proofs.Lowering.{covers_lighter}
use Rattle.wi_saturate.proofs.Elements.{same_item, get_push, get_before, get_last, some_there, got_there, contains_from_get}

-- the rule that was read writes what the one that stands there does
pub same_word : {W : Type 0} (flat : List (Ruled W)) (k : ℕ) (f g : Ruled W) (u v : ℕ) → k < length flat → f ≡ get_or flat k f → slice_get flat k ≡ Some g → g.rule.word ≡ Two u v → f.rule.word ≡ Two u v
same_word {W} flat k f g u v within is at word = ap (λ (z : Ruled W). z.rule.word) (same_item flat k f g (slice_get_read flat (length flat) k f refl within is) at) ∙ word

module _ {W : Type 0} (m : Scale) (c : W → List ℕ) (laws : WeightLaws m) (admitted : (w : W) → IsWeight m (c w)) (heads : List (ℕ × ℕ)) (flat : List (Ruled W)) (rows : List (Row W)) where
  -- what something as light waited for is waited for as well once weights are lighter
  pub wait_kept : (old new : Noted W) → Lightens m c old new → (k i : ℕ) → HasWait m c heads flat rows old k i → HasWait m c heads flat rows new k i
  wait_kept old new lightens k i h u v place f r at word row p g head =
      covers_lighter m c laws admitted old new lightens f.head place (plus (c f.rule.weight) (c r.weight)) (laws.sum (c f.rule.weight) (c r.weight) (admitted f.rule.weight) (admitted r.weight)) (h u v place f r at word row p g head)

  -- the rule doesn't write two symbols
  pub no_second : (k i : ℕ) (f : Ruled W) → k < length flat → f ≡ get_or flat k f → (halves : Noted W) → ((u v : ℕ) → f.rule.word ≡ Two u v → ⊥) → HasWait m c heads flat rows halves k i
  no_second k i f within is halves none u v place g r at word = absurd (none u v (same_word flat k f g u v within is at word))

  module _ (k i : ℕ) (f : Ruled W) (d : Row W) (within : k < length flat) (row_within : i < length rows) (is : f ≡ get_or flat k f) where
    at : slice_get flat k ≡ Some f
    at = slice_get_read flat (length flat) k f refl within is

    row : slice_get rows i ≡ Some (get_or rows i d)
    row = let r = some_there rows i row_within in got_there rows i d r.0 r.1

    -- the head that it would wait for isn't listed
    pub no_head : (halves : Noted W) (u v : ℕ) → f.rule.word ≡ Two u v → (Contains heads ((get_or rows i d).q, v) → ⊥) → HasWait m c heads flat rows halves k i
    no_head halves u v word none u' v' place g r at' word' row' p q head =
        let same : f ≡ g = same_item flat k f g at at' in
        let alike : get_or rows i d ≡ r = same_item rows i (get_or rows i d) r row row' in
        let words : Two u v ≡ Two u' v' = sym word ∙ ap (λ (z : Ruled W). z.rule.word) same ∙ word' in
        let second : v' ≡ v = cc in
        absurd (none (contains_from_get heads place ((get_or rows i d).q, v) (head ∙ ap (λ x. Some (x, v')) (ap (λ (z : Row W). z.q) (sym alike)) ∙ ap (λ x. Some ((get_or rows i d).q, x)) second)))

    module _ (u v place : ℕ) (word : f.rule.word ≡ Two u v) (head : slice_get heads place ≡ Some ((get_or rows i d).q, v)) (half : W) (sum : c half ≡ plus (c f.rule.weight) (c (get_or rows i d).weight))
        (old_halves new_halves : Noted W) (is_lighter : Bool) (lowers : Lowers m c f.head place half old_halves new_halves is_lighter) where
      -- something as light waits now
      pub waits_now : ((i j p g : ℕ) → slice_get heads i ≡ Some (p, g) → slice_get heads j ≡ Some (p, g) → i ≡ j) → HasWait m c heads flat rows new_halves k i
      waits_now once u' v' place' g r at' word' row' p q head' =
          let same : f ≡ g = same_item flat k f g at at' in
          let alike : get_or rows i d ≡ r = same_item rows i (get_or rows i d) r row row' in
          let words : Two u v ≡ Two u' v' = sym word ∙ ap (λ (z : Ruled W). z.rule.word) same ∙ word' in
          let second : v' ≡ v = cc in
          let here : slice_get heads place' ≡ Some ((get_or rows i d).q, v) = head' ∙ ap (λ x. Some (x, v')) (ap (λ (z : Row W). z.q) (sym alike)) ∙ ap (λ x. Some ((get_or rows i d).q, x)) second in
          let place_is : place ≡ place' = once place place' (get_or rows i d).q v head here in
          subst (λ n. Covers m c new_halves g.head n (plus (c g.rule.weight) (c r.weight))) place_is
          (subst (λ (z : Ruled W). Covers m c new_halves z.head place (plus (c z.rule.weight) (c r.weight))) same
          (subst (λ (z : Row W). Covers m c new_halves f.head place (plus (c f.rule.weight) (c z.weight))) alike (subst (λ w. Covers m c new_halves f.head place w) sum lowers.covers)))

      -- nothing new is noted
      pub halves_stay : (waits : Waits) → is_lighter ≡ false → AreHalves c flat rows waits old_halves → AreHalves c flat rows waits new_halves
      halves_stay waits heavier are head' place' x h = elim (lowers.only head' place' x h) [
        | inl before ↦ are head' place' x before
        | inr new ↦ absurd (false≢true (sym heavier ∙ new.0))
      ]

      module _ (old new : Waits)
          (items : new.items.items ≡ old.items.items ++ record { rule = k; row = i } ∷ []) (places : new.places ≡ record { count = old.places.count; places = old.places.places ++ place ∷ [] }) (are : AreWaits heads flat rows old) where
        pub more_keeps : (n : ℕ) (w : Wait) → slice_get old.items.items n ≡ Some w → slice_get new.items.items n ≡ Some w
        more_keeps n w h = subst (λ ws. slice_get ws n ≡ Some w) (sym items) (get_before old.items.items (record { rule = k; row = i }) n w h)

        place_keeps : (n there : ℕ) → slice_get old.places.places n ≡ Some there → slice_get new.places.places n ≡ Some there
        place_keeps n there h = subst (λ vs. slice_get vs n ≡ Some there) (sym (ap (λ v. v.places) places)) (get_before old.places.places place n there h)

        more_length : length new.items.items ≡ length old.items.items + 1
        more_length = ap length items ∙ length-append old.items.items (record { rule = k; row = i } ∷ [])

        -- what is noted new waits last
        pub halves_now : AreHalves c flat rows old old_halves → AreHalves c flat rows new new_halves
        halves_now halves head' place' x h = elim (lowers.only head' place' x h) [
          | inl before ↦ let b = halves head' place' x before in (b.0, b.1, b.2, b.3, more_keeps b.0 b.1 b.4, place_keeps b.0 place' b.5, b.6, b.7, b.8, b.9)
          | inr new' ↦ (
            length old.items.items,
            record { rule = k; row = i },
            f,
            get_or rows i d,
            subst (λ ws. slice_get ws (length old.items.items) ≡ Some (record { rule = k; row = i })) (sym items) (get_last old.items.items (record { rule = k; row = i })),
            subst (λ vs. slice_get vs (length old.items.items) ≡ Some place') (sym (ap (λ v. v.places) places))
                (subst (λ n. slice_get (old.places.places ++ place ∷ []) n ≡ Some place') are.count (get_last old.places.places place ∙ ap (λ n. Some n) (sym new'.2))),
            at,
            sym new'.1,
            row,
            ap c new'.3 ∙ sum,
          )
        ]

        pub more_wait : ((f : Ruled W) (r : Row W) → slice_get flat k ≡ Some f → slice_get rows i ≡ Some r → IsFirst f.rule.to f.rule.word r) → AreWaits heads flat rows new
        more_wait first = record {
          room = ap (λ v. v.count) places ∙ are.room;
          count = omega (arith, more_length, ap (λ v. length v.places) places, length-append old.places.places (place ∷ []), are.count);
          each = λ n there w h h'.
              elim (get_push old.items.items (record { rule = k; row = i }) n w (subst (λ ws. slice_get ws n ≡ Some w) items h)) [
                | inl x ↦ elim (get_push old.places.places place n there (subst (λ vs. slice_get vs n ≡ Some there) (ap (λ v. v.places) places) h')) [
                  | inl y ↦ are.each n there w x.1 y.1
                  | inr y ↦ let low : n < length old.items.items = x.0 in let high : n ≡ length old.places.places = y.0 in absurd (omega (arith, are.count))
                ]
                | inr x ↦ elim (get_push old.places.places place n there (subst (λ vs. slice_get vs n ≡ Some there) (ap (λ v. v.places) places) h')) [
                  | inl y ↦ let low : n < length old.places.places = y.0 in let high : n ≡ length old.items.items = x.0 in absurd (omega (arith, are.count))
                  | inr y ↦
                      let parts : IsFirst f.rule.to (Two u v) (get_or rows i d) = subst (λ z. IsFirst f.rule.to z (get_or rows i d)) word (first f (get_or rows i d) at row) in
                      subst (λ (z : Wait). IsWait heads flat rows z there) x.1
                      (subst (λ (z : ℕ). IsWait heads flat rows (record { rule = k; row = i }) z) y.1 (f, get_or rows i d, u, v, at, word, row, parts.0, parts.1, head))
                ]
              ];
        }
