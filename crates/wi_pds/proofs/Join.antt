-- Runs one after the other.
use Rattle.std.specs.Prelude.{◌≡◌, ℕ, List, [], ◌∷◌, ◌++◌, refl}
use Rattle.std.specs.List.{Contains}
use Rattle.std.proofs.Common.{sym, ap, ◌∙◌, subst, append-nil, append_assoc}
use Rattle.wi_pds.specs.declared.rule.Rule.{Rule}
use Rattle.wi_weight.specs.Weights.{Scale, WeightLaws, IsWeight, plus}
use Rattle.wi_pds.specs.Runs.{symbols, Run, run_weight, Pops}
use Rattle.wi_pds.specs.Closed.{Summary, Listed, Chain}
use Rattle.wi_pds.proofs.Bound.{run_over, weight_run}

module _ {W : Type 0} (rules : ℕ → ℕ → List (Rule W)) where
  -- a run, and another from where it ends
  pub run_append : (rs rs' : List (Rule W)) (p : ℕ) (s : List ℕ) (r : ℕ) (t : List ℕ) (q : ℕ) (u : List ℕ)
      → Run rules p s rs r t → Run rules r t rs' q u → Run rules p s (rs ++ rs') q u
  run_append [] rs' p s r t q u h k = subst (λ x. Run rules x s rs' q u) (sym h.0) (subst (λ x. Run rules r x rs' q u) (sym h.1) k)
  run_append (x ∷ rs) rs' p [] r t q u h k = absurd h
  run_append (x ∷ rs) rs' p (g ∷ s) r t q u h k = (h.0, run_append rs rs' x.to (symbols x.word ++ s) r t q u h.1 k)

  -- a run that empties a stack in two parts empties the upper part first
  pub run_split : (rs : List (Rule W)) (p : ℕ) (s t : List ℕ) (q : ℕ) → Run rules p (s ++ t) rs q []
      → (before after : List (Rule W)) × (r : ℕ) × Run rules p s before r [] × Run rules r t after q [] × (before ++ after ≡ rs)
  run_split rs p [] t q h = ([], rs, p, (refl, refl), h, refl)
  run_split [] p (g ∷ s) t q h = absurd (nonempty g (s ++ t) h.1)
    where
      nonempty : (g : ℕ) (s : List ℕ) → g ∷ s ≡ [] → ⊥
      nonempty g s h = cc
  run_split (x ∷ rs) p (g ∷ s) t q h =
      let k = run_split rs x.to (symbols x.word ++ s) t q (subst (λ y. Run rules x.to y rs q []) (sym (append_assoc (symbols x.word) s t)) h.1) in
      (x ∷ k.0, k.1, k.2, (h.0, k.3), k.4, ap (λ y. x ∷ y) k.5)

module _ {W : Type 0} (m : Scale) (c : W → List ℕ) (laws : WeightLaws m) (admitted : (w : W) → IsWeight m (c w)) where
  -- two runs, one after the other, weigh what both weigh
  pub weight_append : (rs rs' : List (Rule W)) → run_weight m c (rs ++ rs') ≡ plus (run_weight m c rs) (run_weight m c rs')
  weight_append [] rs' = sym (laws.unit_left _ (weight_run m c laws admitted rs'))
  weight_append (r ∷ rs) rs' =
      ap (λ x. plus (c r.weight) x) (weight_append rs rs')
      ∙ sym (laws.assoc _ _ _ (admitted r.weight) (weight_run m c laws admitted rs) (weight_run m c laws admitted rs'))

  module _ (rules : ℕ → ℕ → List (Rule W)) (rows : List Summary) (pops : (p g q : ℕ) (w : List ℕ) → Listed rows p g q w → Pops m c rules p g q w) where
    -- rows for a stack are a run that empties it
    pub chain_run : (s : List ℕ) (p q : ℕ) (w : List ℕ) → Chain m rows p s q w → (rs : List (Rule W)) × Run rules p s rs q [] × (run_weight m c rs ≡ w)
    chain_run [] p q w h = ([], (h.0, refl), h.1)
    chain_run (g ∷ s) p q w h =
        let front = pops p g h.0 h.1 h.3 in
        let rest = chain_run s h.0 q h.2 h.4 in (
          front.0 ++ rest.0,
          run_append rules front.0 rest.0 p (g ∷ s) h.0 s q [] (run_over rules front.0 p (g ∷ []) h.0 [] s front.1) rest.1,
          weight_append front.0 rest.0 ∙ ap (λ x. plus x (run_weight m c rest.0)) front.2 ∙ ap (λ x. plus h.1 x) rest.2 ∙ h.5,
        )

    -- a rule with rows for its right side makes a run
    pub rule_pops : (p g : ℕ) (r : Rule W) (q : ℕ) (w : List ℕ) → Contains (rules p g) r → Chain m rows r.to (symbols r.word) q w → Pops m c rules p g q (plus (c r.weight) w)
    rule_pops p g r q w at h =
        let run = chain_run (symbols r.word) r.to q w h in
        (r ∷ run.0, (at, subst (λ x. Run rules r.to x run.0 q []) (sym (append-nil (symbols r.word))) run.1), ap (λ x. plus (c r.weight) x) run.2)
