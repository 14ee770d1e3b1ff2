-- Sets of heads and of rows that leave nothing out.
use Rattle.std.specs.Prelude.{◌≡◌, ℕ, List, [], ◌∷◌, Option, Some, None, IfSome}
use Rattle.std.specs.List.{Contains}
use Rattle.wi_pds.specs.declared.rule.Word2.{Word2}
use Rattle.wi_pds.specs.declared.rule.Word2.TheVariants.{Empty, One, Two}
use Rattle.wi_pds.specs.declared.rule.Rule.{Rule}
use Rattle.wi_weight.specs.Weights.{Scale, IsWeight, plus, zero_weight, Below, AtMost}
use Rattle.wi_pds.specs.Runs.{symbols, Pops}

-- the heads and pairs have what a rule over g needs that goes to a state and writes a word: its own head and pair,
-- and what it makes of each symbol that may stand below g
abbrev pub Leads : List (ℕ × ℕ) → List (ℕ × ℕ) → ℕ → ℕ → Word2 → Type 0
Leads heads pairs g to Empty = (x : ℕ) → Contains pairs (g, x) → Contains heads (to, x)
Leads heads pairs g to (One u) = Contains heads (to, u) × ((x : ℕ) → Contains pairs (g, x) → Contains pairs (u, x))
Leads heads pairs g to (Two u v) =
    Contains heads (to, u) × Contains pairs (u, v) × ((x : ℕ) → Contains pairs (g, x) → Contains pairs (v, x))

-- heads and pairs that have the start, and what each rule of each head needs
pub record AreClosed {W : Type 0} (rules : ℕ → ℕ → List (Rule W)) (start : ℕ × ℕ) (heads pairs : List (ℕ × ℕ)) : Type 0 where
  pub begins : Contains heads start
  pub each : (p g : ℕ) (r : Rule W) → Contains heads (p, g) → Contains (rules p g) r → Leads heads pairs g r.to r.word

-- a row: from p with g alone to q with nothing, at this weight
pub record Summary : Type 0 where
  pub p : ℕ
  pub g : ℕ
  pub q : ℕ
  pub weight : List ℕ

-- the row is among the rows
abbrev pub Listed : List Summary → ℕ → ℕ → ℕ → List ℕ → Type 0
Listed rows p g q w = Contains rows (record { p = p; g = g; q = q; weight = w })

-- rows for each symbol of a stack in turn, the first from p and the last to q, of sum w
abbrev pub Chain : Scale → List Summary → ℕ → List ℕ → ℕ → List ℕ → Type 0
Chain m rows p [] q w = (p ≡ q) × (zero_weight m ≡ w)
Chain m rows p (g ∷ s) q w = (r : ℕ) × (x y : List ℕ) × Listed rows p g r x × Chain m rows r s q y × (plus x y ≡ w)

-- below the bound, if there is one
abbrev pub Within : Scale → Option (List ℕ) → List ℕ → Type 0
Within m None w = Unit {0}
Within m (Some b) w = Below m w b

-- there is such a row, of at most w
abbrev pub HasRow : Scale → List Summary → ℕ → ℕ → ℕ → List ℕ → Type 0
HasRow m rows p g q w = (x : List ℕ) × Listed rows p g q x × AtMost m x w

-- Rows that have, for each rule of each head with rows for what it writes whose sum is within the bound, one of at most that sum.
pub record AreClosedRows {W : Type 0} (m : Scale) (c : W → List ℕ) (rules : ℕ → ℕ → List (Rule W))
    (heads : List (ℕ × ℕ)) (rows : List Summary) (bound : Option (List ℕ)) : Type 0 where
  pub weights : (p g q : ℕ) (w : List ℕ) → Listed rows p g q w → IsWeight m w
  pub bound_weight : IfSome bound (IsWeight m)
  pub each : (p g : ℕ) (r : Rule W) (q : ℕ) (w : List ℕ) → Contains heads (p, g) → Contains (rules p g) r
      → Chain m rows r.to (symbols r.word) q w → Within m bound (plus (c r.weight) w) → HasRow m rows p g q (plus (c r.weight) w)

-- What follows each run that pops the symbol of a head, and that there is a row of at most its weight if that is within the bound.
pub record BoundsRuns {W : Type 0} (m : Scale) (c : W → List ℕ) (rules : ℕ → ℕ → List (Rule W))
    (heads pairs : List (ℕ × ℕ)) (rows : List Summary) (bound : Option (List ℕ)) : Type 0 where
  pub stays : (p g q : ℕ) (w : List ℕ) (x : ℕ) → Contains heads (p, g) → Pops m c rules p g q w → Contains pairs (g, x) → Contains heads (q, x)
  pub bounded : (p g q : ℕ) (w : List ℕ) → Contains heads (p, g) → Pops m c rules p g q w → Within m bound w → HasRow m rows p g q w
