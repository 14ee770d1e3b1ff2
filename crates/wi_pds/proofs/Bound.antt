-- Closed rows bound every run, by induction on the run.
use Rattle.std.specs.Prelude.{◌≡◌, ℕ, List, [], ◌∷◌, ◌++◌, Option, Some, None, IfSome, refl}
use Rattle.std.specs.List.{Contains}
use Rattle.std.proofs.Common.{sym, ap, ◌∙◌, subst, append_assoc}
use Rattle.wi_pds.specs.declared.rule.Word2.{Word2}
use Rattle.wi_pds.specs.declared.rule.Word2.TheVariants.{Empty, One, Two}
use Rattle.wi_pds.specs.declared.rule.Rule.{Rule}
use Rattle.wi_weight.specs.Weights.{Scale, WeightLaws, IsWeight, plus, zero_weight, AtMost}
use Rattle.wi_weight.specs.lemmas.Order.{weight_zero, at_most_self, at_most_trans, below_from_at_most, grows_left, plus_at_most_left, plus_at_most_right}
use Rattle.wi_pds.specs.Runs.{symbols, Run, run_weight}
use Rattle.wi_pds.specs.Closed.{Leads, AreClosed, Summary, Listed, Chain, Within, AreClosedRows, BoundsRuns}

-- symbols may stand on each other, over g
abbrev pub Stacked : List (ℕ × ℕ) → ℕ → List ℕ → Type 0
Stacked pairs g [] = Unit {0}
Stacked pairs g (x ∷ s) = Contains pairs (g, x) × Stacked pairs x s

-- the stack may stand at p
abbrev pub Stands : List (ℕ × ℕ) → List (ℕ × ℕ) → ℕ → List ℕ → Type 0
Stands heads pairs p [] = Unit {0}
Stands heads pairs p (g ∷ s) = Contains heads (p, g) × Stacked pairs g s

-- a run goes on over whatever stands below
pub run_over : {W : Type 0} (rules : ℕ → ℕ → List (Rule W)) (rs : List (Rule W)) (p : ℕ) (s : List ℕ) (q : ℕ) (t u : List ℕ) → Run rules p s rs q t → Run rules p (s ++ u) rs q (t ++ u)
run_over rules [] p s q t u h = (h.0, ap (λ x. x ++ u) h.1)
run_over rules (r ∷ rs) p [] q t u h = absurd h
run_over rules (r ∷ rs) p (g ∷ s) q t u h =
    (h.0, subst (λ x. Run rules r.to x rs q (t ++ u)) (append_assoc (symbols r.word) s u) (run_over rules rs r.to (symbols r.word ++ s) q t u h.1))

-- what a rule leaves may stand
stands_after : (heads pairs : List (ℕ × ℕ)) (g to : ℕ) (word : Word2) (s : List ℕ) → Leads heads pairs g to word → Stacked pairs g s → Stands heads pairs to (symbols word ++ s)
stands_after heads pairs g to Empty [] l h = tt
stands_after heads pairs g to Empty (x ∷ s) l h = (l x h.0, h.1)
stands_after heads pairs g to (One u) [] l h = (l.0, tt)
stands_after heads pairs g to (One u) (x ∷ s) l h = (l.0, (l.1 x h.0, h.1))
stands_after heads pairs g to (Two u v) [] l h = (l.0, (l.1, tt))
stands_after heads pairs g to (Two u v) (x ∷ s) l h = (l.0, (l.1, (l.2 x h.0, h.1)))

module _ {W : Type 0} (rules : ℕ → ℕ → List (Rule W)) (start : ℕ × ℕ) (heads pairs : List (ℕ × ℕ)) (closed : AreClosed rules start heads pairs) where
  -- what may stand still may after a run
  pub stands_run : (rs : List (Rule W)) (p : ℕ) (s : List ℕ) (q : ℕ) (t : List ℕ) → Run rules p s rs q t → Stands heads pairs p s → Stands heads pairs q t
  stands_run [] p s q t h k = subst (λ x. Stands heads pairs x t) h.0 (subst (λ x. Stands heads pairs p x) h.1 k)
  stands_run (r ∷ rs) p [] q t h k = absurd h
  stands_run (r ∷ rs) p (g ∷ s) q t h k =
      stands_run rs r.to (symbols r.word ++ s) q t h.1 (stands_after heads pairs g r.to r.word s (closed.each p g r k.0 h.0) k.1)

module _ (m : Scale) (laws : WeightLaws m) (rows : List Summary) (weights : (p g q : ℕ) (w : List ℕ) → Listed rows p g q w → IsWeight m w) where
  -- the sum of rows is a weight
  pub weight_chain : (s : List ℕ) (p q : ℕ) (w : List ℕ) → Chain m rows p s q w → IsWeight m w
  weight_chain [] p q w h = subst (λ x. IsWeight m x) h.1 (weight_zero m)
  weight_chain (g ∷ s) p q w h = subst (λ x. IsWeight m x) h.5 (laws.sum _ _ (weights p g h.0 h.1 h.3) (weight_chain s h.0 q h.2 h.4))

  -- rows for two stacks, one on the other, are rows for the upper and rows for the lower
  pub chain_split : (a b : List ℕ) (p q : ℕ) (w : List ℕ) → Chain m rows p (a ++ b) q w → (r : ℕ) × (x y : List ℕ) × Chain m rows p a r x × Chain m rows r b q y × (plus x y ≡ w)
  chain_split [] b p q w h = (p, zero_weight m, w, (refl, refl), h, laws.unit_left w (weight_chain b p q w h))
  chain_split (g ∷ a) b p q w h =
      let k = chain_split a b h.0 q h.2 h.4 in (
        k.0,
        plus h.1 k.1,
        k.2,
        (h.0, h.1, k.1, h.3, k.3, refl),
        k.4,
        laws.assoc h.1 k.1 k.2 (weights p g h.0 h.1 h.3) (weight_chain a h.0 k.0 k.1 k.3) (weight_chain b k.0 q k.2 k.4) ∙ ap (λ x. plus h.1 x) k.5 ∙ h.5,
      )

module _ {W : Type 0} (m : Scale) (c : W → List ℕ) (laws : WeightLaws m) (admitted : (w : W) → IsWeight m (c w)) where
  -- the sum of rules is a weight
  pub weight_run : (rs : List (Rule W)) → IsWeight m (run_weight m c rs)
  weight_run [] = weight_zero m
  weight_run (r ∷ rs) = laws.sum _ _ (admitted r.weight) (weight_run rs)

-- what is no more than something within the bound is within it
within_less : (m : Scale) → WeightLaws m → (bound : Option (List ℕ)) → IfSome bound (IsWeight m) → (a b : List ℕ) → IsWeight m a → IsWeight m b → AtMost m a b → Within m bound b → Within m bound a
within_less m laws None k a b ha hb n h = tt
within_less m laws (Some d) k a b ha hb n h = below_from_at_most laws a b d ha hb k n h

module _ {W : Type 0} (m : Scale) (c : W → List ℕ) (laws : WeightLaws m) (admitted : (w : W) → IsWeight m (c w))
    (rules : ℕ → ℕ → List (Rule W)) (start : ℕ × ℕ) (heads pairs : List (ℕ × ℕ)) (rows : List Summary) (bound : Option (List ℕ))
    (closed : AreClosed rules start heads pairs) (closed_rows : AreClosedRows m c rules heads rows bound) where
  -- rows for the whole stack, of at most the run's weight
  pub cover : (rs : List (Rule W)) (p : ℕ) (s : List ℕ) (q : ℕ) → Run rules p s rs q [] → Stands heads pairs p s → Within m bound (run_weight m c rs) → (w : List ℕ) × Chain m rows p s q w × AtMost m w (run_weight m c rs)
  cover [] p s q h k n = (zero_weight m, subst (λ x. Chain m rows p x q (zero_weight m)) (sym h.1) (h.0, refl), at_most_self laws _ (weight_zero m))
  cover (r ∷ rs) p [] q h k n = absurd h
  cover (r ∷ rs) p (g ∷ s) q h k n =
      let step : List ℕ = c r.weight in
      let rest : List ℕ = run_weight m c rs in
      let step_weight : IsWeight m step = admitted r.weight in
      let rest_weight : IsWeight m rest = weight_run m c laws admitted rs in
      let below : Within m bound rest = within_less m laws bound closed_rows.bound_weight rest (plus step rest) rest_weight (laws.sum step rest step_weight rest_weight) (grows_left laws rest step rest_weight step_weight) n in
      let i = cover rs r.to (symbols r.word ++ s) q h.1 (stands_after heads pairs g r.to r.word s (closed.each p g r k.0 h.0) k.1) below in
      let j = chain_split m laws rows closed_rows.weights (symbols r.word) s r.to q i.0 i.1 in
      let x_weight : IsWeight m j.1 = weight_chain m laws rows closed_rows.weights (symbols r.word) r.to j.0 j.1 j.3 in
      let y_weight : IsWeight m j.2 = weight_chain m laws rows closed_rows.weights s j.0 q j.2 j.4 in
      let sum_weight : IsWeight m i.0 = weight_chain m laws rows closed_rows.weights (symbols r.word ++ s) r.to q i.0 i.1 in
      let front : AtMost m j.1 i.0 = subst (λ v. AtMost m j.1 v) j.5 (laws.grows j.1 j.2 x_weight y_weight) in
      let front_rest : AtMost m j.1 rest = at_most_trans laws j.1 i.0 rest x_weight sum_weight rest_weight front i.2 in
      let here_weight : IsWeight m (plus step j.1) = laws.sum step j.1 step_weight x_weight in
      let here : Within m bound (plus step j.1) =
      within_less m laws bound closed_rows.bound_weight (plus step j.1) (plus step rest) here_weight (laws.sum step rest step_weight rest_weight)
      (plus_at_most_left laws j.1 rest step x_weight rest_weight step_weight front_rest) n in
      let row = closed_rows.each p g r j.0 j.1 k.0 h.0 j.3 here in
      let row_weight : IsWeight m row.0 = closed_rows.weights p g j.0 row.0 row.1 in
      let grouped : plus (plus step j.1) j.2 ≡ plus step i.0 = laws.assoc step j.1 j.2 step_weight x_weight y_weight ∙ ap (λ v. plus step v) j.5 in (
        plus row.0 j.2,
        (j.0, row.0, j.2, row.1, j.4, refl {a = plus row.0 j.2}),
        at_most_trans laws (plus row.0 j.2) (plus step i.0) (plus step rest)
            (laws.sum row.0 j.2 row_weight y_weight) (laws.sum step i.0 step_weight sum_weight) (laws.sum step rest step_weight rest_weight)
            (subst (λ v. AtMost m (plus row.0 j.2) v) grouped (plus_at_most_right laws row.0 (plus step j.1) j.2 row_weight here_weight y_weight row.2))
            (plus_at_most_left laws i.0 rest step sum_weight rest_weight step_weight i.2),
      )

  -- the law of the bound
  pub bounds : BoundsRuns m c rules heads pairs rows bound
  bounds = record {
    stays = λ p g q w x at run pair. (stands_run rules start heads pairs closed run.0 p (g ∷ x ∷ []) q (x ∷ []) (run_over rules run.0 p (g ∷ []) q [] (x ∷ []) run.1) (at, (pair, tt))).0;
    bounded = λ p g q w at run n.
        let i = cover run.0 p (g ∷ []) q run.1 (at, tt) (subst (λ v. Within m bound v) (sym run.2) n) in
        let row = i.1 in
        let alone : row.1 ≡ i.0 = sym (laws.unit_right row.1 (closed_rows.weights p g row.0 row.1 row.3)) ∙ ap (λ v. plus row.1 v) row.4.1 ∙ row.5 in
        (row.1, subst (λ v. Listed rows p g v row.1) row.4.0 row.3, subst (λ v. AtMost m v w) (sym alone) (subst (λ v. AtMost m i.0 v) run.2 i.2));
  }
