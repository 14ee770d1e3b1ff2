-- What is noted once a weight was offered.
use Rattle.std.specs.Prelude.{◌≡◌, ℕ, ◌<◌, ◌==◌, ◌++◌, ◌⊎◌, Bool, true, false, cond, List, length, Option, Some, None, slice_get, refl}
use Rattle.std.proofs.Common.{sym, ap, ◌∙◌, subst, inl, inr, arith, length-append}
use Rattle.std.proofs.lemmas.Bool.{and_parts, eqb-true}
use Rattle.std.proofs.lemmas.Option.{slice_get_within}
use Rattle.wi_weight.specs.Weights.{Scale, WeightLaws, IsWeight, AtMost}
use Rattle.wi_weight.specs.lemmas.Order.{at_most_self, at_most_trans}
use Rattle.wi_saturate.specs.private.Lightest.{Noted, same_place, number_at, weight_by, weight_at, AreNumbers, Covers, Lightens, Lowers}
use Rattle.wi_saturate.proofs.Elements.{same_some, some_there, get_front}

-- with further weights numbers name what they did
pub numbers_longer : {W : Type 0} (old new more : List W) (numbers : List ((ℕ × ℕ) × ℕ)) → new ≡ old ++ more → AreNumbers old numbers → AreNumbers new numbers
numbers_longer old new more numbers longer are head to n at =
    let low = are head to n at in
    omega (arith, low, ap length longer, length-append old more)

weight_kept : {W : Type 0} (old more : List W) (o : Option ℕ) → ((n : ℕ) → o ≡ Some n → n < length old) → weight_by (old ++ more) o ≡ weight_by old o
weight_kept old more None low = refl
weight_kept old more (Some n) low =
    let x = some_there old n (low n refl) in
    get_front old more n x.0 x.1 ∙ sym x.1

-- a number is noted at a place, in numbers that are kept so
module _ (head to number : ℕ) (old new : List ((ℕ × ℕ) × ℕ)) (put : (q : ℕ × ℕ) → number_at new q.0 q.1 ≡ cond (same_place (head, to) q) (Some number) (number_at old q.0 q.1)) where
  -- at each place there is the number, or what was
  number_now : (place n : ℕ) → ((place ≡ head) × (n ≡ to) × (number_at new place n ≡ Some number)) ⊎ (number_at new place n ≡ number_at old place n)
  number_now place n = go (same_place (head, to) (place, n)) (put (place, n)) (λ same. and_parts (head == place) (to == n) same)
    where
      go : (b : Bool) → number_at new place n ≡ cond b (Some number) (number_at old place n) → (b ≡ true → ((head == place) ≡ true) × ((to == n) ≡ true))
          → ((place ≡ head) × (n ≡ to) × (number_at new place n ≡ Some number)) ⊎ (number_at new place n ≡ number_at old place n)
      go true is same = let parts = same refl in inl (sym (eqb-true head place parts.0), sym (eqb-true to n parts.1), is)
      go false is same = inr is

  -- it names a weight, as those before it
  pub numbers_put : {W : Type 0} (before after more : List W) (weight : W) → after ≡ before ++ more → slice_get after number ≡ Some weight → AreNumbers before old → AreNumbers after new
  numbers_put before after more weight longer there are place n k at = elim (number_now place n) [
    | inl is ↦ subst (λ i. i < length after) (same_some (sym is.2 ∙ at)) (slice_get_within after number weight there)
    | inr same ↦ numbers_longer before after more old longer are place n k (sym same ∙ at)
  ]

module _ {W : Type 0} (m : Scale) (c : W → List ℕ) (laws : WeightLaws m) (admitted : (w : W) → IsWeight m (c w)) where
  pub lightens_none : (noted : Noted W) → Lightens m c noted noted
  lightens_none noted head to x at = (x, at, at_most_self laws (c x) (admitted x))

  -- what was covered stays so
  pub covers_lighter : (old new : Noted W) → Lightens m c old new → (head to : ℕ) (w : List ℕ) → IsWeight m w → Covers m c old head to w → Covers m c new head to w
  covers_lighter old new lightens head to w weight h =
      let is = lightens head to h.0 h.1 in
      (is.0, is.1, at_most_trans laws (c is.0) (c h.0) w (admitted is.0) (admitted h.0) weight is.2 h.2)

  pub lightens_both : (a b d : Noted W) → Lightens m c a b → Lightens m c b d → Lightens m c a d
  lightens_both a b d first second head to x at = covers_lighter b d second head to (c x) (admitted x) (first head to x at)

  module _ (head to : ℕ) (weight : W) where
    -- one that is as light was noted before
    pub lowers_none : (noted : Noted W) → Covers m c noted head to (c weight) → Lowers m c head to weight noted noted false
    lowers_none noted covers = record {
      covers = covers;
      lightens = lightens_none noted;
      only = λ place n x at. inl at;
    }

    -- it is noted now
    module _ (old new : Noted W) (number : ℕ) (more : List W) (lighter : (x : W) → weight_at old head to ≡ Some x → AtMost m (c weight) (c x)) (are : AreNumbers old.weights old.numbers)
        (longer : new.weights ≡ old.weights ++ more) (there : slice_get new.weights number ≡ Some weight)
        (put : (q : ℕ × ℕ) → number_at new.numbers q.0 q.1 ≡ cond (same_place (head, to) q) (Some number) (number_at old.numbers q.0 q.1)) (here : number_at new.numbers head to ≡ Some number) where
      weight_here : weight_at new head to ≡ Some weight
      weight_here = ap (weight_by new.weights) here ∙ there

      -- at each place there is what was, or the weight
      noted_at : (place n : ℕ) → ((place ≡ head) × (n ≡ to) × (weight_at new place n ≡ Some weight)) ⊎ (weight_at new place n ≡ weight_at old place n)
      noted_at place n = elim (number_now head to number old.numbers new.numbers put place n) [
        | inl is ↦ inl (is.0, is.1, ap (weight_by new.weights) is.2 ∙ there)
        | inr same ↦ inr (ap (weight_by new.weights) same ∙ ap (λ ws. weight_by ws (number_at old.numbers place n)) longer ∙ weight_kept old.weights more (number_at old.numbers place n) (are place n))
      ]

      pub lowers_now : Lowers m c head to weight old new true
      lowers_now = record {
        covers = (weight, weight_here, at_most_self laws (c weight) (admitted weight));
        lightens = λ place n x at. elim (noted_at place n) [
          | inl is ↦ (weight, is.2, lighter x (subst (λ i. weight_at old i to ≡ Some x) is.0 (subst (λ i. weight_at old place i ≡ Some x) is.1 at)))
          | inr same ↦ (x, same ∙ at, at_most_self laws (c x) (admitted x))
        ];
        only = λ place n x at. elim (noted_at place n) [
          | inl is ↦ inr (refl, is.0, is.1, same_some (sym at ∙ is.2))
          | inr same ↦ inl (sym same ∙ at)
        ];
      }
