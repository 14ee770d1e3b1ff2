-- Tables from which a run can be read.
use Rattle.std.specs.Prelude.{◌≡◌, ℕ, List, [], ◌∷◌, ◌++◌, Option, IfSome}
use Rattle.wi_weight.specs.Weights.{Scale}
use Rattle.wi_weight.specs.declared.kinds.Pair.{Pair}
use Rattle.wi_weight.specs.declared.kinds.Effort.{Effort}
use Rattle.wi_pds.specs.declared.rule.Rule.{Rule}
use Rattle.wi_saturate.specs.declared.row.Row.{Row}
use Rattle.wi_saturate.specs.Rows.{EachAfter, IsMade, IsFor}

-- the components of the first part, and then the effort
abbrev pub with_effort : {A : Type 0} → (A → List ℕ) → Pair A Effort → List ℕ
with_effort c w = c w.first ++ w.second.count ∷ []

-- Rows that are made one after the other by rules of the system; the goal's weight, if there is one, is that of the last, which is for the goal.
pub record IsDerivation {W : Type 0} (m : Scale) (c : W → List ℕ) (rules : ℕ → ℕ → List (Rule W)) (goal : ℕ × ℕ × ℕ) (rows : List (Row W)) (best : Option W) : Type 0 where
  pub made : EachAfter (IsMade m c rules) rows
  pub last : IfSome best (λ b. (front : List (Row W)) × (row : Row W) × (rows ≡ front ++ row ∷ []) × IsFor goal.0 goal.1 goal.2 row × (c row.weight ≡ c b))
