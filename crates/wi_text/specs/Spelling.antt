-- A text as tokens with white space between them.
use Rattle.std.specs.Prelude.{◌≡◌, ℕ, ◌+◌, true, List, [], ◌∷◌, ◌++◌, length}
use Rattle.std.specs.List.{list_all}
use Rattle.wi_text.specs.Characters.{is_space}

-- from a byte of the text on it is these tokens, with white space before, between and after them. A token is told by how
-- it is written, and by what may be so at a byte with what follows it.
abbrev pub Spells : {T : Type 0} → (T → List ℕ) → (ℕ → T → List ℕ → Type 0) → ℕ → List T → List ℕ → Type 0
Spells spelling IsToken at [] text = list_all is_space text ≡ true
Spells spelling IsToken at (t ∷ ts) text =
    (space rest : List ℕ) × (list_all is_space space ≡ true) × (text ≡ space ++ (spelling t ++ rest))
    × IsToken (at + length space) t rest × Spells spelling IsToken (at + length space + length (spelling t)) ts rest
