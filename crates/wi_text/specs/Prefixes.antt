-- Where a text stops being one of a language: the longest of its prefixes, of whole characters, that begins one.
use Rattle.std.specs.Prelude.{ℕ, ◌<◌, ◌≤◌, List, ◌++◌, length, take}
use Rattle.std.specs.Str.{IsCharBoundary}

-- the bytes begin some text of the language
abbrev pub Begins : (List ℕ → Type 0) → List ℕ → Type 0
Begins L p = (rest : List ℕ) × L (p ++ rest)

-- the text isn't in the language, and its first k bytes are the longest that begin a text of the language; they are whole
-- characters
pub record IsFaultAt (L : List ℕ → Type 0) (text : List ℕ) (k : ℕ) : Type 0 where
  pub outside : L text → ⊥
  pub within : k ≤ length text
  pub whole : IsCharBoundary text k
  pub begins : Begins L (take k text)
  pub longest : (j : ℕ) → k < j → j ≤ length text → Begins L (take j text) → ⊥
