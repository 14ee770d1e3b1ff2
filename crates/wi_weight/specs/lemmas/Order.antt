-- What follows from the laws of weights.
use Rattle.std.specs.Prelude.{◌≡◌, ℕ, List, ◌⊎◌, refl}
use Rattle.std.specs.declared.cmp.Ordering.{Ordering}
use Rattle.std.specs.declared.cmp.Ordering.TheVariants.{Less, Equal, Greater}
use Rattle.std.specs.Ordering.{ordering_reverse}
use Rattle.std.proofs.Common.{sym, ◌∙◌, subst, inl, inr}
use Rattle.std.proofs.lemmas.List.{length-replicate}
use Rattle.wi_weight.specs.Weights.{Scale, WeightLaws, IsWeight, plus, zero_weight, Below, AtMost}

by_order : {G : Type 0} (o : Ordering) → (o ≡ Less → G) → (o ≡ Equal → G) → (o ≡ Greater → G) → G
by_order Less f g h = f refl
by_order Equal f g h = g refl
by_order Greater f g h = h refl

own_reverse : (a : Ordering) → a ≡ ordering_reverse a → a ≡ Equal
own_reverse Less h = cc
own_reverse Equal h = refl
own_reverse Greater h = cc

less_turned : (a b : Ordering) → a ≡ ordering_reverse b → b ≡ Less → a ≡ Greater
less_turned a b h k = rw k at h

greater_turned : (a b : Ordering) → a ≡ ordering_reverse b → b ≡ Greater → a ≡ Less
greater_turned a b h k = rw k at h

-- doing nothing is a weight
pub weight_zero : (m : Scale) → IsWeight m (zero_weight m)
weight_zero m = length-replicate m.arity 0

module _ {m : Scale} (laws : WeightLaws m) where
  -- a weight compares as equal with itself
  pub tied : (a : List ℕ) → IsWeight m a → m.order a a ≡ Equal
  tied a h = own_reverse _ (laws.antisymm a a h h)

  -- a weight is no more than itself
  pub at_most_self : (a : List ℕ) → IsWeight m a → AtMost m a a
  at_most_self a h g = cc (tied a h, g)

  -- equal weights: no more
  pub at_most_same : (a b : List ℕ) → IsWeight m a → a ≡ b → AtMost m a b
  at_most_same a b h e = subst (λ x. AtMost m a x) e (at_most_self a h)

  -- less: no more
  pub at_most_below : (a b : List ℕ) → Below m a b → AtMost m a b
  at_most_below a b h g = cc

  -- no more: less, or the same
  pub split_at_most : (a b : List ℕ) → IsWeight m a → IsWeight m b → AtMost m a b → Below m a b ⊎ (a ≡ b)
  split_at_most a b h k n = by_order (m.order a b) (λ e. inl e) (λ e. inr (laws.same a b h k e)) (λ e. absurd (n e))

  -- not less the other way round: no more
  pub not_below : (a b : List ℕ) → IsWeight m a → IsWeight m b → (Below m b a → ⊥) → AtMost m a b
  not_below a b h k n e = n (greater_turned _ _ (laws.antisymm b a k h) e)

  -- less one way excludes no more the other way round
  pub below_only : (a b : List ℕ) → IsWeight m a → IsWeight m b → Below m a b → AtMost m b a → ⊥
  below_only a b h k l n = n (less_turned _ _ (laws.antisymm b a k h) l)

  -- less, or no more the other way round
  pub below_or_at_most : (a b : List ℕ) → IsWeight m a → IsWeight m b → Below m a b ⊎ AtMost m b a
  below_or_at_most a b h k = by_order (m.order a b) (λ e. inl e)
      (λ e. inr (at_most_same b a k (sym (laws.same a b h k e))))
      (λ e. inr (at_most_below b a (greater_turned _ _ (laws.antisymm b a k h) e)))

  -- no more, and then less: less
  pub below_from_at_most : (a b c : List ℕ) → IsWeight m a → IsWeight m b → IsWeight m c → AtMost m a b → Below m b c → Below m a c
  below_from_at_most a b c ha hb hc n l = elim (split_at_most a b ha hb n) [
    | inl l' ↦ laws.trans a b c ha hb hc l' l
    | inr e ↦ subst (λ x. Below m x c) (sym e) l
  ]

  -- less, and then no more: less
  pub below_to_at_most : (a b c : List ℕ) → IsWeight m a → IsWeight m b → IsWeight m c → Below m a b → AtMost m b c → Below m a c
  below_to_at_most a b c ha hb hc l n = elim (split_at_most b c hb hc n) [
    | inl l' ↦ laws.trans a b c ha hb hc l l'
    | inr e ↦ subst (λ x. Below m a x) e l
  ]

  -- no more than what is no more: no more
  pub at_most_trans : (a b c : List ℕ) → IsWeight m a → IsWeight m b → IsWeight m c → AtMost m a b → AtMost m b c → AtMost m a c
  at_most_trans a b c ha hb hc n k = elim (split_at_most a b ha hb n) [
    | inl l ↦ at_most_below a c (below_to_at_most a b c ha hb hc l k)
    | inr e ↦ subst (λ x. AtMost m x c) (sym e) k
  ]

  -- no more both ways: the same
  pub at_most_both : (a b : List ℕ) → IsWeight m a → IsWeight m b → AtMost m a b → AtMost m b a → a ≡ b
  at_most_both a b ha hb n k = elim (split_at_most a b ha hb n) [
    | inl l ↦ absurd (below_only a b ha hb l k)
    | inr e ↦ e
  ]

  -- what is added after both doesn't change their order
  pub order_plus_right : (a b c : List ℕ) → IsWeight m a → IsWeight m b → IsWeight m c → m.order (plus a c) (plus b c) ≡ m.order a b
  order_plus_right a b c ha hb hc = by_order (m.order a b)
      (λ e. laws.strict_right a b c ha hb hc e ∙ sym e)
      (λ e. subst (λ x. m.order (plus a c) (plus x c) ≡ Equal) (laws.same a b ha hb e) (tied (plus a c) (laws.sum a c ha hc)) ∙ sym e)
      (λ e. less_turned _ _ (laws.antisymm _ _ (laws.sum a c ha hc) (laws.sum b c hb hc)) (laws.strict_right b a c hb ha hc (greater_turned _ _ (laws.antisymm b a hb ha) e)) ∙ sym e)

  -- what is added before both doesn't change their order
  pub order_plus_left : (a b c : List ℕ) → IsWeight m a → IsWeight m b → IsWeight m c → m.order (plus c a) (plus c b) ≡ m.order a b
  order_plus_left a b c ha hb hc = by_order (m.order a b)
      (λ e. laws.strict_left a b c ha hb hc e ∙ sym e)
      (λ e. subst (λ x. m.order (plus c a) (plus c x) ≡ Equal) (laws.same a b ha hb e) (tied (plus c a) (laws.sum c a hc ha)) ∙ sym e)
      (λ e. less_turned _ _ (laws.antisymm _ _ (laws.sum c a hc ha) (laws.sum c b hc hb)) (laws.strict_left b a c hb ha hc (greater_turned _ _ (laws.antisymm b a hb ha) e)) ∙ sym e)

  -- no more stays no more when the same is added after both
  pub plus_at_most_right : (a b c : List ℕ) → IsWeight m a → IsWeight m b → IsWeight m c → AtMost m a b → AtMost m (plus a c) (plus b c)
  plus_at_most_right a b c ha hb hc n e = n (sym (order_plus_right a b c ha hb hc) ∙ e)

  -- no more stays no more when the same is added before both
  pub plus_at_most_left : (a b c : List ℕ) → IsWeight m a → IsWeight m b → IsWeight m c → AtMost m a b → AtMost m (plus c a) (plus c b)
  plus_at_most_left a b c ha hb hc n e = n (sym (order_plus_left a b c ha hb hc) ∙ e)

  -- a sum is never less than its second part
  pub grows_left : (a c : List ℕ) → IsWeight m a → IsWeight m c → AtMost m a (plus c a)
  grows_left a c ha hc =
      let z = weight_zero m in
      let up : AtMost m (zero_weight m) c = subst (λ x. AtMost m (zero_weight m) x) (laws.unit_left c hc) (laws.grows (zero_weight m) c z hc) in
      subst (λ x. AtMost m x (plus c a)) (laws.unit_left a ha) (plus_at_most_right (zero_weight m) c a z hc ha up)
