-- Lines, each of which ends with its line feed.
use Rattle.std.specs.Prelude.{◌≡◌, ℕ, Bool, true, false, ◌==◌, if◌then◌else◌, List, [], ◌∷◌, ◌++◌, Option, Some, None}

-- lines one after another, each with its line feed
abbrev pub lines_bytes : List (List ℕ) → List ℕ
lines_bytes [] = []
lines_bytes (line ∷ lines) = line ++ 10 ∷ lines_bytes lines

-- no line feed in a text
abbrev pub is_one_line : List ℕ → Bool
is_one_line [] = true
is_one_line (b ∷ text) = if b == 10 then false else is_one_line text

abbrev pub AreLines : List (List ℕ) → Type 0
AreLines [] = Unit {0}
AreLines (line ∷ lines) = (is_one_line line ≡ true) × AreLines lines

-- a line and what stands behind its line feed, or there is no line feed
abbrev pub IsCutAt : List ℕ → Option (List ℕ × List ℕ) → Type 0
IsCutAt bytes (Some r) = (bytes ≡ r.0 ++ 10 ∷ r.1) × (is_one_line r.0 ≡ true)
IsCutAt bytes None = is_one_line bytes ≡ true
