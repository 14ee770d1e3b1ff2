-- The laws of two weights side by side, from the laws of each.
use Rattle.std.specs.Prelude.{◌≡◌, ℕ, ◌+◌, List, ◌++◌, length, take, drop}
use Rattle.std.specs.declared.cmp.Ordering.TheVariants.{Equal}
use Rattle.std.specs.Ordering.{ordering_reverse}
use Rattle.std.proofs.Common.{sym, ap, ◌∙◌, arith, subst, inl, inr, length-take, length-drop, length-append, take-append-drop}
use Rattle.std.proofs.Math.Seq.{take-append_seam, drop-append_seam}
use Rattle.wi_weight.specs.Weights.{Scale, WeightLaws, IsWeight, plus, Below, AtMost}
use Rattle.wi_weight.specs.Kinds.{pair_scale}
use Rattle.wi_weight.specs.lemmas.Sums.{plus_assoc, zero_plus, plus_zero, take_plus, drop_plus, length-plus}
use Rattle.wi_weight.specs.lemmas.Then.{then_same, then_turned, less_by_first, less_by_second, less_parts, first_not_greater, equal_parts, not_greater}
use Rattle.wi_weight.specs.lemmas.Order.{below_to_at_most, order_plus_right, order_plus_left}

same_append : {a b c d : List ℕ} → a ≡ b → c ≡ d → a ++ c ≡ b ++ d
same_append first second = cc

module _ (m n : Scale) (am : WeightLaws m) (bm : WeightLaws n) where
  first_is : (a : List ℕ) → IsWeight (pair_scale m n) a → IsWeight m (take m.arity a)
  first_is a h = length-take m.arity a ∙ omega arith

  second_is : (a : List ℕ) → IsWeight (pair_scale m n) a → IsWeight n (drop m.arity a)
  second_is a h = length-drop m.arity a ∙ omega arith

  module _ (a b : List ℕ) (ha : IsWeight (pair_scale m n) a) (hb : IsWeight (pair_scale m n) b) where
    pair_antisymm : (pair_scale m n).order a b ≡ ordering_reverse ((pair_scale m n).order b a)
    pair_antisymm = then_turned _ _ _ _ (am.antisymm _ _ (first_is a ha) (first_is b hb)) (bm.antisymm _ _ (second_is a ha) (second_is b hb))

    pair_same : (pair_scale m n).order a b ≡ Equal → a ≡ b
    pair_same e =
        let parts = equal_parts _ _ e in
        sym (take-append-drop m.arity a)
        ∙ same_append (am.same _ _ (first_is a ha) (first_is b hb) parts.0) (bm.same _ _ (second_is a ha) (second_is b hb) parts.1)
        ∙ take-append-drop m.arity b

    pair_grows : AtMost (pair_scale m n) a (plus a b)
    pair_grows = rw (take_plus m.arity a b, drop_plus m.arity a b)
        (not_greater _ _ (am.grows _ _ (first_is a ha) (first_is b hb)) (bm.grows _ _ (second_is a ha) (second_is b hb)))

    module _ (c : List ℕ) (hc : IsWeight (pair_scale m n) c) where
      pair_trans : Below (pair_scale m n) a b → Below (pair_scale m n) b c → Below (pair_scale m n) a c
      pair_trans ab bc = elim (less_parts _ _ ab) [
        | inl l ↦ less_by_first _ _ (below_to_at_most am _ _ _ (first_is a ha) (first_is b hb) (first_is c hc) l (first_not_greater _ _ bc))
        | inr t ↦
            let same : take m.arity b ≡ take m.arity a = sym (am.same _ _ (first_is a ha) (first_is b hb) t.0) in
            elim (less_parts _ _ bc) [
              | inl l ↦ less_by_first _ _ (subst (λ x. Below m x (take m.arity c)) same l)
              | inr u ↦ less_by_second _ _ (subst (λ x. m.order x (take m.arity c) ≡ Equal) same u.0) (bm.trans _ _ _ (second_is a ha) (second_is b hb) (second_is c hc) t.1 u.1)
            ]
      ]

      pair_plus_right : (pair_scale m n).order (plus a c) (plus b c) ≡ (pair_scale m n).order a b
      pair_plus_right = rw (take_plus m.arity a c, take_plus m.arity b c, drop_plus m.arity a c, drop_plus m.arity b c) (then_same
          (order_plus_right am _ _ _ (first_is a ha) (first_is b hb) (first_is c hc))
          (order_plus_right bm _ _ _ (second_is a ha) (second_is b hb) (second_is c hc)))

      pair_plus_left : (pair_scale m n).order (plus c a) (plus c b) ≡ (pair_scale m n).order a b
      pair_plus_left = rw (take_plus m.arity c a, take_plus m.arity c b, drop_plus m.arity c a, drop_plus m.arity c b) (then_same
          (order_plus_left am _ _ _ (first_is a ha) (first_is b hb) (first_is c hc))
          (order_plus_left bm _ _ _ (second_is a ha) (second_is b hb) (second_is c hc)))

  -- two weights side by side keep the laws where each of them does
  pub pair_laws : WeightLaws (pair_scale m n)
  pair_laws = record {
    sum = λ a b ha hb. length-plus (m.arity + n.arity) a b ha hb;
    assoc = λ a b c _ _ _. plus_assoc a b c;
    unit_left = λ a ha. zero_plus (m.arity + n.arity) a ha;
    unit_right = λ a ha. plus_zero (m.arity + n.arity) a ha;
    antisymm = pair_antisymm;
    trans = λ a b c ha hb hc. pair_trans a b ha hb c hc;
    same = pair_same;
    strict_right = λ a b c ha hb hc l. pair_plus_right a b ha hb c hc ∙ l;
    strict_left = λ a b c ha hb hc l. pair_plus_left a b ha hb c hc ∙ l;
    grows = pair_grows;
  }

-- a weight of each scale, side by side, is a weight of the pair's
pub pair_admitted : (m n : Scale) (a b : List ℕ) → IsWeight m a → IsWeight n b → IsWeight (pair_scale m n) (a ++ b)
pair_admitted m n a b h k = length-append a b ∙ omega arith

-- the parts of two lists side by side, of which the first has i elements
pub taken : (i : ℕ) (a b : List ℕ) → length a ≡ i → take i (a ++ b) ≡ a
taken i a b e = rw (← e) (take-append_seam a b)

pub dropped : (i : ℕ) (a b : List ℕ) → length a ≡ i → drop i (a ++ b) ≡ b
dropped i a b e = rw (← e) (drop-append_seam a b)

-- side by side with weights of one scale in front, the same lists have the same parts
pub same_parts : (m : Scale) (a c b d : List ℕ) → IsWeight m a → IsWeight m c → a ++ b ≡ c ++ d → (a ≡ c) × (b ≡ d)
same_parts m a c b d h k same = (
  sym (taken m.arity a b h) ∙ ap (take m.arity) same ∙ taken m.arity c d k,
  sym (dropped m.arity a b h) ∙ ap (drop m.arity) same ∙ dropped m.arity c d k,
)
