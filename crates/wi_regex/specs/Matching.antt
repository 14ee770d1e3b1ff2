-- What an expression matches, by cases on the expression.
use Rattle.std.specs.Prelude.{◌≡◌, ◌≢◌, ℕ, ◌+◌, Bool, true, false, ◌&&◌, ◌||◌, ◌⊎◌, List, [], ◌∷◌, ◌++◌}
use Rattle.wi_regex.specs.declared.regex.Regex.{Regex}
use Rattle.wi_regex.specs.declared.regex.Regex.TheVariants.{Atom, Concat', Either', Star', Plus', Maybe'}

-- the word is these parts one after the other, each of them a word of P that isn't empty
abbrev pub IsJoined : (List ℕ → Type 0) → List (List ℕ) → List ℕ → Type 0
IsJoined P [] w = w ≡ []
IsJoined P (part ∷ parts) w = (rest : List ℕ) × (part ≢ []) × P part × (w ≡ part ++ rest) × IsJoined P parts rest

-- the word is words of P, one after the other
abbrev pub IsRepeated : (List ℕ → Type 0) → List ℕ → Type 0
IsRepeated P w = (parts : List (List ℕ)) × IsJoined P parts w

-- a front that isn't empty is a word of P, and the rest is words of P, one after the other
abbrev pub SplitsOff : (List ℕ → Type 0) → List ℕ → Type 0
SplitsOff P w = (front rest : List ℕ) × (front ≢ []) × P front × IsRepeated P rest × (w ≡ front ++ rest)

-- the expression matches the word; set says which symbols are in an atom
abbrev pub Matches : {A : Type 0} → (A → ℕ → Bool) → Regex A → List ℕ → Type 0
Matches set (Atom a) w = (x : ℕ) × (set a x ≡ true) × (w ≡ x ∷ [])
Matches set (Concat' p a q b) w = (u v : List ℕ) × Matches set a u × Matches set b v × (w ≡ u ++ v)
Matches set (Either' p a q b) w = Matches set a w ⊎ Matches set b w
Matches set (Star' p a) w = IsRepeated (Matches set a) w
Matches set (Plus' p a) w = (u v : List ℕ) × Matches set a u × IsRepeated (Matches set a) v × (w ≡ u ++ v)
Matches set (Maybe' p a) w = (w ≡ []) ⊎ Matches set a w

-- how many positions there are: occurrences of atoms
abbrev pub position_count : {A : Type 0} → Regex A → ℕ
position_count (Atom a) = 1
position_count (Concat' p a q b) = position_count a + position_count b
position_count (Either' p a q b) = position_count a + position_count b
position_count (Star' p a) = position_count a
position_count (Plus' p a) = position_count a
position_count (Maybe' p a) = position_count a

-- whether the empty word matches, as a test
abbrev pub is_empty_word_in : {A : Type 0} → Regex A → Bool
is_empty_word_in (Atom a) = false
is_empty_word_in (Concat' p a q b) = is_empty_word_in a && is_empty_word_in b
is_empty_word_in (Either' p a q b) = is_empty_word_in a || is_empty_word_in b
is_empty_word_in (Star' p a) = true
is_empty_word_in (Plus' p a) = is_empty_word_in a
is_empty_word_in (Maybe' p a) = true
