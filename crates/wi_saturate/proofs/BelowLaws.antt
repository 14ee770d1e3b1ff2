-- Of closed rows those below a lower bound are closed under it.
use Rattle.std.proofs.Common.{ℕ, List, [], ◌∷◌, Option, Some, None, IfSome, subst}
use Rattle.wi_weight.specs.Weights.{Scale, WeightLaws, IsWeight, plus, Below, AtMost}
use Rattle.wi_weight.specs.lemmas.Order.{weight_zero, below_from_at_most, below_to_at_most}
use Rattle.wi_pds.specs.declared.rule.Rule.{Rule}
use Rattle.wi_pds.specs.Closed.{AreClosedRows, Summary, Listed, Chain, Within}
use Rattle.wi_pds.specs.Runs.{symbols}
use Rattle.wi_saturate.specs.LeastTables.{AreRowsBelow}

module _ {W : Type 0} (m : Scale) (c : W → List ℕ) (laws : WeightLaws m) (admitted : (w : W) → IsWeight m (c w)) where
  -- rows for the symbols of a stack among more rows
  chain_more : (kept rows : List Summary) → ((p g q : ℕ) (w : List ℕ) → Listed kept p g q w → Listed rows p g q w) → (p : ℕ) (s : List ℕ) (q : ℕ) (w : List ℕ) → Chain m kept p s q w → Chain m rows p s q w
  chain_more kept rows into p [] q w h = h
  chain_more kept rows into p (g ∷ s) q w h = (h.0, h.1, h.2, into p g h.0 h.1 h.3, chain_more kept rows into h.0 s q h.2 h.4, h.5)

  -- their sum is a weight
  chain_weight : (rows : List Summary) → ((p g q : ℕ) (w : List ℕ) → Listed rows p g q w → IsWeight m w) → (p : ℕ) (s : List ℕ) (q : ℕ) (w : List ℕ) → Chain m rows p s q w → IsWeight m w
  chain_weight rows weights p [] q w h = subst (λ (x : List ℕ). IsWeight m x) h.1 (weight_zero m)
  chain_weight rows weights p (g ∷ s) q w h =
      subst (λ (x : List ℕ). IsWeight m x) h.5 (laws.sum h.1 h.2 (weights p g h.0 h.1 h.3) (chain_weight rows weights h.0 s q h.2 h.4))

  -- what is below a weight that is no more than the bound is within the bound
  within_lower : (bound : Option (List ℕ)) (least x : List ℕ) → IsWeight m least → IsWeight m x → IfSome bound (λ b. IsWeight m b) → IfSome bound (λ b. AtMost m least b) → Below m x least → Within m bound x
  within_lower None least x hl hx hb most below = tt
  within_lower (Some b) least x hl hx hb most below = below_to_at_most laws x least b hx hl hb below most

  -- closed rows, cut at a lower bound
  pub rows_below : (rules : ℕ → ℕ → List (Rule W)) (heads : List (ℕ × ℕ)) (rows kept : List Summary) (bound : Option (List ℕ)) (least : List ℕ) → IsWeight m least → IfSome bound (λ b. AtMost m least b)
      → AreClosedRows m c rules heads rows bound → AreRowsBelow m least rows kept → AreClosedRows m c rules heads kept (Some least)
  rows_below rules heads rows kept bound least weight most h cut = record {
    weights = weights;
    bound_weight = weight;
    each = λ p g r q w head rule chain within.
        let sum : IsWeight m (plus (c r.weight) w) = laws.sum (c r.weight) w (admitted r.weight) (chain_weight kept weights r.to (symbols r.word) q w chain) in
        let row = h.each p g r q w head rule (chain_more kept rows (λ p g q w l. (cut.from p g q w l).0) r.to (symbols r.word) q w chain)
        (within_lower bound least (plus (c r.weight) w) weight sum h.bound_weight most within) in
        (row.0, cut.all p g q row.0 row.1 (below_from_at_most laws row.0 (plus (c r.weight) w) least (h.weights p g q row.0 row.1) sum weight row.2 within), row.2);
  }
    where
      weights : (p g q : ℕ) (w : List ℕ) → Listed kept p g q w → IsWeight m w
      weights p g q w l = h.weights p g q w (cut.from p g q w l).0
