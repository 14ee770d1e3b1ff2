-- Items that stand at places.
use Rattle.std.specs.Prelude.{◌≡◌, ℕ, ◌+◌, ◌<◌, ◌≤◌, ◌⊎◌, List, length, Some, slice_get}

-- pairs of numbers
pub record PairsView : Type 0 where
  pub items : List (ℕ × ℕ)

-- how many places there are, and the place of each item
pub record ChainsView : Type 0 where
  pub count : ℕ
  pub places : List ℕ

-- one more than the last item below n at the place, or 0
pub record IsEnd (places : List ℕ) (place n end : ℕ) : Type 0 where
  pub within : end ≤ n
  pub none : (i : ℕ) → end ≤ i → i < n → slice_get places i ≡ Some place → ⊥
  pub at : (i : ℕ) → end ≡ i + 1 → slice_get places i ≡ Some place

-- the end of each place
abbrev pub AreEnds : List ℕ → List ℕ → Type 0
AreEnds places ends = (place end : ℕ) → slice_get ends place ≡ Some end → IsEnd places place (length places) end

-- the end of each item's place before it
abbrev pub AreLinks : List ℕ → List ℕ → Type 0
AreLinks places ends = (item place end : ℕ) → slice_get places item ≡ Some place → slice_get ends item ≡ Some end → IsEnd places place item end

-- A walk along the items of a place, from the last to the first: those from end on are done.
pub record IsWalk (places : List ℕ) (place end : ℕ) (Done : ℕ → Type 0) : Type 0 where
  pub left : (i : ℕ) → slice_get places i ≡ Some place → (i < end) ⊎ Done i
  pub within : end ≤ length places
  pub at : (i : ℕ) → end ≡ i + 1 → slice_get places i ≡ Some place
