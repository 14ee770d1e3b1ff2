-- Turns: what the rules, the rows so far and the last of these make.
use Rattle.std.specs.Prelude.{◌≡◌, ℕ, ◌+◌, ◌<◌, List, Some, length, slice_get}
use Rattle.wi_saturate.specs.declared.row.Row.{Row}
use Rattle.wi_weight.specs.Weights.{Scale}
use Rattle.wi_saturate.specs.declared.frontier.Frontier.{Frontier}
use Rattle.wi_saturate.specs.declared.rules.Ruled.{Ruled}
use Rattle.wi_saturate.specs.declared.waits.Wait.{Wait}
use Rattle.wi_saturate.specs.declared.waits.Waits.{Waits}
use Rattle.wi_saturate.specs.declared.turn.Turn.{Turn}
use Rattle.wi_saturate.specs.private.Chains.{ChainsView}
use Rattle.wi_saturate.specs.private.Lightest.{Noted}
use Rattle.wi_saturate.specs.private.Candidates.{AllFit}
use Rattle.wi_saturate.specs.private.Indexes.{IsIndexed}
use Rattle.wi_saturate.specs.private.Searches.{Adds, IsFirst, AreWaits, AreHalves, HasWait, AreRowPlaces}

-- the listed heads, the rules of them all, and the rows so far
abbrev pub heads_of : {W : Type 0} → Turn W → List (ℕ × ℕ)
heads_of turn = turn.index.now.rules.heads

abbrev pub rules_of : {W : Type 0} → Turn W → List (Ruled W)
rules_of turn = turn.index.now.rules.items

abbrev pub rows_of : {W : Type 0} → Turn W → List (Row W)
rows_of turn = turn.rows.now

-- each row fits, and the last one is of the head at the place
pub record IsTurn {W : Type 0} (c : W → List ℕ) (turn : Turn W) : Type 0 where
  pub index : IsIndexed c turn.index.now
  pub fit : AllFit c (rows_of turn)
  pub within : turn.last < length (rows_of turn)
  pub head : (r : Row W) → slice_get (rows_of turn) turn.last ≡ Some r → slice_get (heads_of turn) turn.place ≡ Some (r.p, r.g)

-- the last row is for the first symbol of the rule at the place, if that writes any
abbrev pub IsFirstOf : {W : Type 0} → Turn W → ℕ → Type 0
IsFirstOf {W} turn k = (f : Ruled W) (r : Row W) → slice_get (rules_of turn) k ≡ Some f → slice_get (rows_of turn) turn.last ≡ Some r → IsFirst f.rule.to f.rule.word r

-- each row stands at the place of its head
abbrev pub ArePlaced : {W : Type 0} → Turn W → ChainsView → Type 0
ArePlaced turn places = AreRowPlaces (heads_of turn) (rows_of turn) places

-- each rule that waits has a row for its first symbol
abbrev pub AreWaiting : {W : Type 0} → Turn W → Waits → Type 0
AreWaiting turn waits = AreWaits (heads_of turn) (rules_of turn) (rows_of turn) waits

-- what waited waits at the same place
abbrev pub KeepsWaits : Waits → Waits → Type 0
KeepsWaits old new = (n : ℕ) (w : Wait) → slice_get old.items.items n ≡ Some w → slice_get new.items.items n ≡ Some w

-- each weight that is noted is that of what waits
abbrev pub AreNoted : {W : Type 0} → (W → List ℕ) → Turn W → Waits → Noted W → Type 0
AreNoted c turn waits halves = AreHalves c (rules_of turn) (rows_of turn) waits halves

-- if the rule at a place writes two symbols, and the last row is for the first, something as light waits for the second
abbrev pub WaitsFor : {W : Type 0} → Scale → (W → List ℕ) → Turn W → Noted W → ℕ → Type 0
WaitsFor m c turn halves k = HasWait m c (heads_of turn) (rules_of turn) (rows_of turn) halves k turn.last

-- sound candidates were offered, and each that was put on the heap was a try
pub record ArePushed {W : Type 0} (m : Scale) (c : W → List ℕ) (turn : Turn W) (old new : Frontier W) (before after : ℕ) : Type 0 where
  pub adds : Adds m c (rules_of turn) (rows_of turn) old new
  pub lengths : length new.heap + before ≡ length old.heap + after
