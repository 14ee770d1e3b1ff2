-- The order of two weights side by side.
use Rattle.std.specs.Prelude.{◌≡◌, ◌≢◌, ℕ, List, ◌++◌, refl}
use Rattle.std.specs.declared.cmp.Ordering.TheVariants.{Equal}
use Rattle.std.specs.Ordering.{ordering_then}
use Rattle.std.proofs.Common.{◌∙◌, sym}
use Rattle.wi_weight.specs.Weights.{Scale, IsWeight}
use Rattle.wi_weight.specs.Kinds.{pair_scale}
use Rattle.wi_weight.specs.lemmas.PairLaws.{taken, dropped}
use Rattle.wi_weight.specs.lemmas.Then.{then_decided, then_tied}

module _ (m n : Scale) (a b c d : List ℕ) (a_is : IsWeight m a) (c_is : IsWeight m c) where
  order_append : (pair_scale m n).order (a ++ b) (c ++ d) ≡ ordering_then (m.order a c) (n.order b d)
  order_append = rw (taken m.arity a b a_is, taken m.arity c d c_is, dropped m.arity a b a_is, dropped m.arity c d c_is) refl

  -- where the first parts tie, the second parts decide
  pub order_tied : Equal ≡ m.order a c → n.order b d ≡ (pair_scale m n).order (a ++ b) (c ++ d)
  order_tied tie = sym (order_append ∙ then_tied _ _ (sym tie))

  -- where they don't, they decide
  pub order_decided : m.order a c ≢ Equal → m.order a c ≡ (pair_scale m n).order (a ++ b) (c ++ d)
  order_decided decided = sym (order_append ∙ then_decided _ _ decided)
