-- Runs of a pushdown system, and what they weigh. Schwoon 2002, section 2.1 and chapter 3.
use Rattle.std.specs.Prelude.{◌≡◌, ℕ, List, [], ◌∷◌, ◌++◌}
use Rattle.std.specs.List.{Contains}
use Rattle.wi_pds.specs.declared.rule.Word2.{Word2}
use Rattle.wi_pds.specs.declared.rule.Word2.TheVariants.{Empty, One, Two}
use Rattle.wi_pds.specs.declared.rule.Rule.{Rule}
use Rattle.wi_weight.specs.Weights.{Scale, plus, zero_weight, AtMost}

-- the symbols that a rule writes in the place of the top
abbrev pub symbols : Word2 → List ℕ
symbols Empty = []
symbols (One u) = u ∷ []
symbols (Two u v) = u ∷ v ∷ []

-- the rules rs, one after the other, each at the top of the stack, lead from p with s to q with t
abbrev pub Run : {W : Type 0} → (ℕ → ℕ → List (Rule W)) → ℕ → List ℕ → List (Rule W) → ℕ → List ℕ → Type 0
Run rules p s [] q t = (p ≡ q) × (s ≡ t)
Run rules p [] (r ∷ rs) q t = ⊥
Run rules p (g ∷ s) (r ∷ rs) q t = Contains (rules p g) r × Run rules r.to (symbols r.word ++ s) rs q t

-- rs leads from p with g alone to q with nothing; where (p, g) is the start and q is what is asked for, rs is a goal run
abbrev pub PopRun : {W : Type 0} → (ℕ → ℕ → List (Rule W)) → ℕ → ℕ → ℕ → List (Rule W) → Type 0
PopRun rules p g q rs = Run rules p (g ∷ []) rs q []

-- the sum of the rules' weights
abbrev pub run_weight : {W : Type 0} → Scale → (W → List ℕ) → List (Rule W) → List ℕ
run_weight m c [] = zero_weight m
run_weight m c (r ∷ rs) = plus (c r.weight) (run_weight m c rs)

-- a run from p with g alone to q with nothing weighs w
abbrev pub Pops : {W : Type 0} → Scale → (W → List ℕ) → (ℕ → ℕ → List (Rule W)) → ℕ → ℕ → ℕ → List ℕ → Type 0
Pops {W} m c rules p g q w = (rs : List (Rule W)) × PopRun rules p g q rs × (run_weight m c rs ≡ w)

-- w is the least weight of such a run
abbrev pub Least : {W : Type 0} → Scale → (W → List ℕ) → (ℕ → ℕ → List (Rule W)) → ℕ → ℕ → ℕ → List ℕ → Type 0
Least m c rules p g q w = Pops m c rules p g q w × ((x : List ℕ) → Pops m c rules p g q x → AtMost m w x)
