-- Tables of marks.
use Rattle.std.specs.Prelude.{◌≡◌, ℕ, Bool, false, ◌⊎◌, ◌↔◌, IsTrue, List, length, Option, Some, None, slice_get, slice_index_or, Contains, Vec, vec_len}
use Rattle.std.specs.declared.alloc.Global.{Global}

-- whether the row has a mark at q, where there is a row
abbrev pub in_row : Option (Vec Bool Global) → ℕ → Bool
in_row None q = false
in_row (Some v) q = slice_index_or v.items q false

-- whether the place (p, q) has a mark
abbrev pub marked : List (Vec Bool Global) → ℕ → ℕ → Bool
marked rows p q = in_row (slice_get rows p) q

-- as many rows as columns
pub record IsSquare (rows : List (Vec Bool Global)) (n : ℕ) : Type 0 where
  pub count : length rows ≡ n
  pub each : (p : ℕ) (v : Vec Bool Global) → slice_get rows p ≡ Some v → vec_len v ≡ n

-- new has the marks of old, and those of which P holds
pub record AddsSome (old new : List Bool) (P : ℕ → Type 0) : Type 0 where
  pub each : (q : ℕ) → IsTrue (slice_index_or new q false) ↔ (IsTrue (slice_index_or old q false) ⊎ P q)

-- new has the marks of old, and those of P
pub record AddsMarks (old new : List (Vec Bool Global)) (P : ℕ → ℕ → Type 0) : Type 0 where
  pub marks : (p q : ℕ) → IsTrue (marked new p q) ↔ (IsTrue (marked old p q) ⊎ P p q)

-- zs has the elements of xs, and where also is true those of ys
pub record IsJoint (zs xs : List ℕ) (also : Bool) (ys : List ℕ) : Type 0 where
  pub each : (q : ℕ) → Contains zs q ↔ (Contains xs q ⊎ (IsTrue also × Contains ys q))
