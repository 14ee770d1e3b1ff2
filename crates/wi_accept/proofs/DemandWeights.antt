-- What rows have to be there weighs weights, where the rows do.
use Rattle.std.proofs.Common.{◌≡◌, ℕ, ◌&&◌, ◌==◌, List, map, Option, Some, None, inl, inr, refl, subst}
use Rattle.wi_weight.specs.declared.kinds.Pair.{Pair}
use Rattle.wi_weight.specs.declared.kinds.Terms.{Terms}
use Rattle.wi_weight.specs.declared.kinds.Effort.{Effort}
use Rattle.wi_weight.specs.Weights.{IsWeight, plus}
use Rattle.wi_quantity.specs.Weighing.{components}
use Rattle.wi_pds.specs.declared.rule.Word2.{Word2}
use Rattle.wi_pds.specs.declared.rule.Word2.TheVariants.{Empty, One, Two}
use Rattle.wi_pds.specs.declared.rule.Rule.{Rule}
use Rattle.wi_pds.specs.Closed.{Summary}
use Rattle.wi_rules.proofs.Lists.{In, map_in, flat_in, filter_in, in_contains}
use Rattle.wi_build.specs.Systems.{scale}
use Rattle.wi_accept.specs.Demands.{rows_at, row, demands, demands_at, demands_of, is_open, first_open, row_to, weight_to}
use Rattle.wi_accept.proofs.ClosedLaws.{AreWeights}
use Rattle.wi_accept.proofs.Finding.{find_some}
use Rattle.wi_accept.proofs.WeightLemmas.{scale_laws, admitted}

module _ (rows : List Summary) (weights : AreWeights scale rows) where
  at_weight : (p g : ℕ) (r : Summary) → In (rows_at rows p g) r → IsWeight scale r.weight
  at_weight p g r i = weights r.p r.g r.q r.weight (in_contains rows r (filter_in (λ (s : Summary). s.p == p && s.g == g) rows r i).0)

  -- a row's weight is a weight
  pub to_weight : (p g q : ℕ) (w : List ℕ) → weight_to rows p g q ≡ Some w → IsWeight scale w
  to_weight p g q w h = go (row_to rows p g q) refl
    where
      go : (o : Option Summary) → row_to rows p g q ≡ o → IsWeight scale w
      go None e = let none : None ≡ Some w = rw e at h in cc
      go (Some r) e =
          let some : Some r.weight ≡ Some w = rw e at h in
          let same : r.weight ≡ w = cc in
          subst (λ (x : List ℕ). IsWeight scale x) same (at_weight p g r (find_some (λ (s : Summary). s.q == q) (rows_at rows p g) r e).0)

  demand_weight : (p g : ℕ) (w : List ℕ) (to : ℕ) (word : Word2) → IsWeight scale w → (d : Summary) → In (demands rows p g w to word) d → IsWeight scale d.weight
  demand_weight p g w to Empty h d (inl e) = subst (λ (s : Summary). IsWeight scale s.weight) e h
  demand_weight p g w to Empty h d (inr i) = absurd i
  demand_weight p g w to (One u) h d i =
      let m = map_in (λ (r : Summary). row p g r.q (plus w r.weight)) (rows_at rows to u) d i in
      subst (λ (s : Summary). IsWeight scale s.weight) m.2 (scale_laws.sum w m.0.weight h (at_weight to u m.0 m.1))
  demand_weight p g w to (Two u v) h d i =
      let f = flat_in (λ (r : Summary). map (λ (s : Summary). row p g s.q (plus (plus w r.weight) s.weight)) (rows_at rows r.q v)) (rows_at rows to u) d i in
      let m = map_in (λ (s : Summary). row p g s.q (plus (plus w f.0.weight) s.weight)) (rows_at rows f.0.q v) d f.2 in
      subst (λ (s : Summary). IsWeight scale s.weight) m.2
      (scale_laws.sum (plus w f.0.weight) m.0.weight (scale_laws.sum w f.0.weight h (at_weight to u f.0 f.1)) (at_weight f.0.q v m.0 m.1))

  -- the weight of the first that is open is a weight
  pub open_weight : (rules : ℕ → ℕ → List (Rule (Pair Terms Effort))) (heads : List (ℕ × ℕ)) (bound : Option (List ℕ)) (d : Summary) → first_open scale components rules heads rows bound ≡ Some d → IsWeight scale d.weight
  open_weight rules heads bound d h =
      let head = flat_in (λ (x : ℕ × ℕ). demands_at components rows x.0 x.1 (rules x.0 x.1)) heads d (find_some (λ (s : Summary). is_open scale bound rows s) (demands_of components rules rows heads) d h).0 in
      let rule = flat_in (λ (r : Rule (Pair Terms Effort)). demands rows head.0.0 head.0.1 (components r.weight) r.to r.word) (rules head.0.0 head.0.1) d head.2 in
      demand_weight head.0.0 head.0.1 (components rule.0.weight) rule.0.to rule.0.word (admitted rule.0.weight) d rule.2
