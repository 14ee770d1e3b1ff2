-- What a line of a policies file says.
--
--     # a comment
--     yes NAME QUERY
--     no NAME QUERY
--
-- NAME stands before the first `<`, with which QUERY begins.
use Rattle.std.specs.Prelude.{ℕ, ◌-◌, Bool, true, ◌&&◌, ◌||◌, ◌==◌, not, nat_lt, codes, if◌then◌else◌, List, [], ◌∷◌, ◌++◌, length, take, drop, reverse, replicate, Option, Some, None}
use Rattle.std.specs.Option.{option_map, option_and_then}
use Rattle.std.specs.List.{list_all}
use Rattle.std.specs.Str.{bytes_eq}
use Rattle.wi_text.specs.Characters.{begins_with, is_plain}
use Rattle.wi_world.specs.declared.answer.Word.{Word}
use Rattle.wi_world.specs.declared.answer.Word.TheVariants.{Yes, No}

-- a space, a tab or a carriage return
abbrev pub is_blank : ℕ → Bool
is_blank b = (b == 32) || ((b == 9) || (b == 13))

-- a text without what is blank at its beginning, and without that at both ends
abbrev pub after_blanks : List ℕ → List ℕ
after_blanks [] = []
after_blanks (b ∷ text) = if is_blank b then after_blanks text else b ∷ text

abbrev pub trimmed : List ℕ → List ℕ
trimmed text = reverse (after_blanks (reverse (after_blanks text)))

-- nothing stands on a line, or a comment
abbrev pub says_nothing_behind : List ℕ → Bool
says_nothing_behind [] = true
says_nothing_behind (b ∷ rest) = b == 35

abbrev pub says_nothing : List ℕ → Bool
says_nothing line = says_nothing_behind (after_blanks line)

-- what stands behind a word with which a text begins, if no plain character follows the word
abbrev pub behind : List ℕ → List ℕ → Option (List ℕ)
behind word text =
    if bytes_eq (take (length word) text) word && not (begins_with is_plain (drop (length word) text)) then Some (drop (length word) text) else None

-- the word with which a text begins, and what stands behind it
abbrev pub worded : List ℕ → Option (Word × List ℕ)
worded text =
    elim (behind (codes "yes") text) [
      | Some rest ↦ Some (Yes, rest)
      | None ↦ option_map (λ rest. (No, rest)) (behind (codes "no") text)
    ]

-- what stands before the first `<` of a text, and what begins with it
abbrev pub cut : List ℕ → Option (List ℕ × List ℕ)
cut [] = None
cut (b ∷ text) = if b == 60 then Some ([], b ∷ text) else option_map (λ parts. (b ∷ parts.0, parts.1)) (cut text)

-- no control character
abbrev pub is_printable : ℕ → Bool
is_printable b = nat_lt 31 b && not (b == 127)

-- what is to be answered, what a policy is called, and the text of its query
pub record Statement : Type 0 where
  pub word : Word
  pub name : List ℕ
  pub query : List ℕ

-- a line of so many bytes that says this. In its query's text each byte before the first `<` is a space, so that bytes are the line's
abbrev pub statement_of : ℕ → Word → List ℕ × List ℕ → Option Statement
statement_of n word parts =
    if list_all is_printable (trimmed parts.0) then Some (record { word = word; name = trimmed parts.0; query = replicate (n - length parts.1) 32 ++ parts.1 }) else None

-- what a line says that says something
abbrev pub statement_in : List ℕ → Option Statement
statement_in line = option_and_then (λ w. option_and_then (statement_of (length line) w.0) (cut w.1)) (worded (after_blanks line))
