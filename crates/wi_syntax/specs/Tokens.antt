-- The tokens of a query.
use Rattle.std.specs.Prelude.{◌≡◌, ℕ, Bool, true, ◌&&◌, not, nat_lt, List, [], ◌∷◌, ◌++◌, length, if◌then◌else◌}
use Rattle.std.specs.List.{list_all}
use Rattle.wi_text.specs.Characters.{is_name_byte, is_plain, is_plain_name, begins_with}
use Rattle.wi_text.specs.Spelling.{Spells}
use Rattle.wi_syntax.specs.Names.{Named}
use Rattle.wi_syntax.specs.declared.token.Mark.{Mark}
use Rattle.wi_syntax.specs.declared.token.Mark.TheVariants.{Less, Greater, OpenRound, CloseRound, OpenSquare, CloseSquare, Hash, Dot, Comma, Caret, Star, Plus, Question, Bar}
use Rattle.wi_syntax.specs.declared.token.Token.{Token}
use Rattle.wi_syntax.specs.declared.token.Token.TheVariants as token

-- the byte that a mark is
abbrev pub mark_byte : Mark → ℕ
mark_byte Less = 60
mark_byte Greater = 62
mark_byte OpenRound = 40
mark_byte CloseRound = 41
mark_byte OpenSquare = 91
mark_byte CloseSquare = 93
mark_byte Hash = 35
mark_byte Dot = 46
mark_byte Comma = 44
mark_byte Caret = 94
mark_byte Star = 42
mark_byte Plus = 43
mark_byte Question = 63
mark_byte Bar = 124

-- how a token is written
abbrev pub spelling : Token → List ℕ
spelling (token.Mark m) = mark_byte m ∷ []
spelling (token.AnyEnd at) = 46 ∷ []
spelling (token.Word n) = if n.quoted then 34 ∷ (n.text ++ 34 ∷ []) else n.text

-- a name of its form, before the rest of a text: between quotation marks one character or more, none of them a control
-- character or a quotation mark; or plain characters, not directly followed by another
abbrev pub is_word : Named → List ℕ → Bool
is_word n rest =
    if n.quoted then nat_lt 0 (length n.text) && list_all is_name_byte n.text
    else is_plain_name n.text && not (begins_with is_plain rest)

-- what a token may be at a byte, before the rest of a text
abbrev pub IsToken : ℕ → Token → List ℕ → Type 0
IsToken at (token.Mark m) rest = Unit {0}
IsToken at (token.AnyEnd n) rest = n ≡ at
IsToken at (token.Word n) rest = (n.at ≡ at) × (is_word n rest ≡ true)

-- a text is these tokens, with white space before, between and after them
abbrev pub IsTokens : List Token → List ℕ → Type 0
IsTokens tokens text = Spells spelling IsToken 0 tokens text
