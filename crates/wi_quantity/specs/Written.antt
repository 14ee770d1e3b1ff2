-- What a weights text is, token by token.
--
--     weights = term { "," term }
--     term    = part { "+" part }
--     part    = [ number "*" ] word
--     word    = letter { letter }            not directly followed by another letter
--     number  = "0" | digit 1 to 9 { digit } not directly followed by another digit
use Rattle.std.specs.Prelude.{◌≡◌, ◌≢◌, ℕ, true, false, codes, List, [], ◌∷◌, Option, Some, None}
use Rattle.std.specs.List.{list_all}
use Rattle.wi_text.specs.Characters.{is_digit, is_letter, is_number, begins_with}
use Rattle.wi_text.specs.Spelling.{Spells}

-- a word or a number, with the byte where it starts; or a mark
pub data Token : Type 0 where
  Word Number : ℕ → List ℕ → Token
  Star Plus Comma : Token

-- how a token is written
abbrev pub spelling : Token → List ℕ
spelling (Word at s) = s
spelling (Number at s) = s
spelling Star = codes "*"
spelling Plus = codes "+"
spelling Comma = codes ","

-- what a token may be at a byte, before the rest of a text: it isn't directly followed by more of its kind
abbrev pub IsToken : ℕ → Token → List ℕ → Type 0
IsToken at (Word n s) rest = (n ≡ at) × (s ≢ []) × (list_all is_letter s ≡ true) × (begins_with is_letter rest ≡ false)
IsToken at (Number n s) rest = (n ≡ at) × (is_number s ≡ true) × (begins_with is_digit rest ≡ false)
IsToken at mark rest = Unit {0}

-- a part as it is written: the number before `*`, if there is one, and the word; each with the byte where it starts
pub record WrittenPart : Type 0 where
  pub number : Option (ℕ × List ℕ)
  pub word : ℕ × List ℕ

-- parts with `+` between them, and terms with `,` between them
pub record WrittenTerm : Type 0 where
  pub first : WrittenPart
  pub more : List WrittenPart

pub record Written : Type 0 where
  pub first : WrittenTerm
  pub more : List WrittenTerm

-- the tokens of each, and what follows
abbrev pub number_tokens : Option (ℕ × List ℕ) → List Token → List Token
number_tokens None rest = rest
number_tokens (Some n) rest = Number n.0 n.1 ∷ Star ∷ rest

abbrev pub part_tokens : WrittenPart → List Token → List Token
part_tokens part rest = number_tokens part.number (Word part.word.0 part.word.1 ∷ rest)

abbrev pub more_parts : List WrittenPart → List Token → List Token
more_parts [] rest = rest
more_parts (part ∷ parts) rest = Plus ∷ part_tokens part (more_parts parts rest)

abbrev pub term_tokens : WrittenTerm → List Token → List Token
term_tokens term rest = part_tokens term.first (more_parts term.more rest)

abbrev pub more_terms : List WrittenTerm → List Token
more_terms [] = []
more_terms (term ∷ terms) = Comma ∷ term_tokens term (more_terms terms)

abbrev pub tokens_of : Written → List Token
tokens_of w = term_tokens w.first (more_terms w.more)

-- the text is written so
abbrev pub Reads : List ℕ → Written → Type 0
Reads text w = Spells spelling IsToken 0 (tokens_of w) text

-- the text is a weights text, whatever its words and numbers are
abbrev pub IsWeightsText : List ℕ → Type 0
IsWeightsText text = (w : Written) × Reads text w

abbrev pub parts_of : WrittenTerm → List WrittenPart
parts_of term = term.first ∷ term.more

abbrev pub terms_of : Written → List WrittenTerm
terms_of w = w.first ∷ w.more
