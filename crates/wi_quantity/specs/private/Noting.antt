-- What is noted of a weights text while it is read byte by byte.
use Rattle.std.specs.Prelude.{ℕ, ◌+◌, List, [], ◌∷◌, ◌++◌, Option, Some, None}
use Rattle.wi_quantity.specs.declared.written.Class.{Class}
use Rattle.wi_quantity.specs.declared.written.Class.TheVariants.{Space, Zero, Nonzero, Letter, Star, Plus, Comma, Other}
use Rattle.wi_quantity.specs.Written.{WrittenPart}
use Rattle.wi_quantity.specs.private.Syntax.{class_of}

-- ended terms, ended parts of the next one, and the number and the word of its next part
pub record Noted : Type 0 where
  pub terms : List (List WrittenPart)
  pub parts : List WrittenPart
  pub number : ℕ × List ℕ
  pub word : ℕ × List ℕ

abbrev pub nothing : Noted
nothing = record { terms = []; parts = []; number = (0, []); word = (0, []) }

-- characters with the byte where they start, and one more that stands at a byte
abbrev pub start_of : List ℕ → ℕ → ℕ → ℕ
start_of [] start at = at
start_of (c ∷ s) start at = start

abbrev pub with_letter : ℕ × List ℕ → ℕ → ℕ → ℕ × List ℕ
with_letter piece at b = (start_of piece.1 piece.0 at, piece.1 ++ b ∷ [])

-- a number, where there is a digit
abbrev pub given : List ℕ → ℕ → Option (ℕ × List ℕ)
given [] at = None
given (c ∷ s) at = Some (at, c ∷ s)

abbrev pub part_of : ℕ × List ℕ → ℕ × List ℕ → WrittenPart
part_of number word = record { number = given number.1 number.0; word = word }

abbrev pub end_part : Noted → Noted
end_part d = record { terms = d.terms; parts = d.parts ++ part_of d.number d.word ∷ []; number = (0, []); word = (0, []) }

abbrev pub end_term : Noted → Noted
end_term d = record { terms = d.terms ++ (d.parts ++ part_of d.number d.word ∷ []) ∷ []; parts = []; number = (0, []); word = (0, []) }

-- what is noted after a byte of a kind
abbrev pub noted_as : Class → Noted → ℕ → ℕ → Noted
noted_as Zero d at b = record d { number = with_letter d.number at b }
noted_as Nonzero d at b = record d { number = with_letter d.number at b }
noted_as Letter d at b = record d { word = with_letter d.word at b }
noted_as Plus d at b = end_part d
noted_as Comma d at b = end_term d
noted_as Space d at b = d
noted_as Star d at b = d
noted_as Other d at b = d

abbrev pub noted : Noted → ℕ → ℕ → Noted
noted d at b = noted_as (class_of b) d at b

-- what is noted after the bytes of a text from a byte on
abbrev pub note_all : Noted → ℕ → List ℕ → Noted
note_all d at [] = d
note_all d at (b ∷ text) = note_all (noted d at b) (at + 1) text
