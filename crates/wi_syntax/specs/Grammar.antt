-- What a text of a query is, token by token. The form is that of AalWiNes' queries (CoNEXT 2020), with lists of links that
-- are known down or up.
--
--     query = "<" expression ">" expression ( "<" expression ">" | "drop" ) number [ "down" links ] [ "up" links ]
--     links = "[" pair { "," pair } "]"
--
-- The second expression is over link atoms, the others over label atoms. The number is "0", or a digit 1 to 9 and digits.
use Rattle.std.specs.Prelude.{◌≡◌, ℕ, ◌<◌, true, false, codes, List, [], ◌∷◌, length, Option, Some, None}
use Rattle.wi_text.specs.Characters.{is_number}
use Rattle.wi_syntax.specs.Names.{Named}
use Rattle.wi_syntax.specs.Tokens.{IsTokens}
use Rattle.wi_syntax.specs.declared.token.Mark.TheVariants.{Less, Greater}
use Rattle.wi_syntax.specs.declared.token.Token.{Token}
use Rattle.wi_syntax.specs.declared.token.Token.TheVariants.{Mark, Word}
use Rattle.wi_syntax.specs.declared.written.Known.{Known}
use Rattle.wi_syntax.specs.declared.written.Last.{Last}
use Rattle.wi_syntax.specs.declared.written.Last.TheVariants.{Header, Dropped}
use Rattle.wi_syntax.specs.declared.written.Written.{Written}
use Rattle.wi_syntax.specs.Atoms.{label_tokens, link_tokens, pair_tokens, listed, is_label_atom, is_link_atom}
use Rattle.wi_syntax.specs.Trees.{IsExpression, signs_tokens}

-- a plain name that starts at a byte
abbrev pub plain : ℕ → List ℕ → Named
plain at text = record { at = at; quoted = false; text = text }

-- a list of links that are known down or up, after its word, if there is one
abbrev pub known_tokens : List ℕ → Option Known → List Token → List Token
known_tokens word None rest = rest
known_tokens word (Some known) rest = Word (plain known.at word) ∷ listed pair_tokens false known.pairs rest

-- the last header between its brackets, or a word in its place
abbrev pub last_tokens : Last → List Token → List Token
last_tokens (Header signs) rest = Mark Less ∷ signs_tokens label_tokens signs (Mark Greater ∷ rest)
last_tokens (Dropped at) rest = Word (plain at (codes "drop")) ∷ rest

abbrev pub tokens_of : Written → List Token
tokens_of w =
    Mark Less ∷ signs_tokens label_tokens w.first (Mark Greater ∷ signs_tokens link_tokens w.path (last_tokens w.last
    (Word w.number ∷ known_tokens (codes "down") w.down (known_tokens (codes "up") w.up []))))

-- a list that is there has a pair
abbrev pub IsKnown : Option Known → Type 0
IsKnown None = Unit {0}
IsKnown (Some known) = 0 < length known.pairs

-- a number as it is written, without quotation marks
abbrev pub IsNumber : Named → Type 0
IsNumber name = (name.quoted ≡ false) × (is_number name.text ≡ true)

-- the last header is of its form, where it is there
abbrev pub IsLast : Last → Type 0
IsLast (Header signs) = IsExpression is_label_atom signs
IsLast (Dropped at) = Unit {0}

-- the parts of a query are of their form
pub record IsWritten (w : Written) : Type 0 where
  pub first : IsExpression is_label_atom w.first
  pub path : IsExpression is_link_atom w.path
  pub last : IsLast w.last
  pub number : IsNumber w.number
  pub down : IsKnown w.down
  pub up : IsKnown w.up

-- the text is written so
pub record Reads (text : List ℕ) (w : Written) : Type 0 where
  pub form : IsWritten w
  pub tokens : IsTokens (tokens_of w) text

-- the text is of the form of a query, whatever its names and its number are
abbrev pub IsQueryText : List ℕ → Type 0
IsQueryText text = (w : Written) × Reads text w
