-- Runs by the places of their rules.
use Rattle.std.specs.Prelude.{◌≡◌, ℕ, List, [], ◌∷◌, ◌++◌, Some, slice_get}
use Rattle.wi_weight.specs.Weights.{Scale}
use Rattle.wi_pds.specs.declared.rule.Rule.{Rule}
use Rattle.wi_pds.specs.declared.rule.RuleId.{RuleId}
use Rattle.wi_pds.specs.Runs.{symbols, PopRun, run_weight}

-- each id names the next rule of the run from p with s: its place among the rules of the head that the run has come to
abbrev pub Names : {W : Type 0} → (ℕ → ℕ → List (Rule W)) → ℕ → List ℕ → List RuleId → List (Rule W) → Type 0
Names rules p s [] [] = Unit {0}
Names rules p (g ∷ s) (id ∷ ids) (r ∷ rs) =
    (id.p ≡ p) × (id.g ≡ g) × (slice_get (rules p g) id.at ≡ Some r) × Names rules r.to (symbols r.word ++ s) ids rs
Names rules p s ids rs = ⊥

-- the ids name a run from p with g alone to q with nothing, which weighs w
abbrev pub IsNamedRun : {W : Type 0} → Scale → (W → List ℕ) → (ℕ → ℕ → List (Rule W)) → ℕ → ℕ → ℕ → List RuleId → List ℕ → Type 0
IsNamedRun {W} m c rules p g q ids w =
    (rs : List (Rule W)) × PopRun rules p g q rs × Names rules p (g ∷ []) ids rs × (run_weight m c rs ≡ w)
