-- The lightest weight that was noted at each place. A place is a head's, with a number.
use Rattle.std.specs.Prelude.{◌≡◌, ℕ, ◌<◌, ◌==◌, ◌&&◌, ◌⊎◌, Bool, true, List, length, Option, Some, None, slice_get}
use Rattle.std.specs.Map.{lookup}
use Rattle.wi_weight.specs.Weights.{Scale, AtMost}

-- a number for each place, and the weights that the numbers name
pub record Noted (W : Type 0) : Type 0 where
  pub numbers : List ((ℕ × ℕ) × ℕ)
  pub weights : List W

-- whether two places are the same
abbrev pub same_place : ℕ × ℕ → ℕ × ℕ → Bool
same_place x y = (x.0 == y.0) && (x.1 == y.1)

-- the number at a place
abbrev pub number_at : List ((ℕ × ℕ) × ℕ) → ℕ → ℕ → Option ℕ
number_at numbers head to = lookup (same_place (head, to)) numbers

-- the weight that is named, if one is
abbrev pub weight_by : {W : Type 0} → List W → Option ℕ → Option W
weight_by weights None = None
weight_by weights (Some n) = slice_get weights n

-- what was noted at a place
abbrev pub weight_at : {W : Type 0} → Noted W → ℕ → ℕ → Option W
weight_at noted head to = weight_by noted.weights (number_at noted.numbers head to)

-- each number names a weight
abbrev pub AreNumbers : {W : Type 0} → List W → List ((ℕ × ℕ) × ℕ) → Type 0
AreNumbers weights numbers = (head to n : ℕ) → number_at numbers head to ≡ Some n → n < length weights

-- something that weighs at most w was noted there
abbrev pub Covers : {W : Type 0} → Scale → (W → List ℕ) → Noted W → ℕ → ℕ → List ℕ → Type 0
Covers {W} m c noted head to w = (x : W) × (weight_at noted head to ≡ Some x) × AtMost m (c x) w

-- no weight got heavier
abbrev pub Lightens : {W : Type 0} → Scale → (W → List ℕ) → Noted W → Noted W → Type 0
Lightens {W} m c old new = (head to : ℕ) (x : W) → weight_at old head to ≡ Some x → Covers m c new head to (c x)

-- A weight was noted at a place, if it was lighter than what was there.
pub record Lowers {W : Type 0} (m : Scale) (c : W → List ℕ) (head to : ℕ) (weight : W) (old new : Noted W) (is_lighter : Bool) : Type 0 where
  pub covers : Covers m c new head to (c weight)
  pub lightens : Lightens m c old new
  -- a weight that is new is this one, there
  pub only : (place n : ℕ) (x : W) → weight_at new place n ≡ Some x → (weight_at old place n ≡ Some x) ⊎ ((is_lighter ≡ true) × (place ≡ head) × (n ≡ to) × (x ≡ weight))
