-- How a query is read, byte by byte.
use Rattle.std.specs.Prelude.{◌≡◌, ℕ, ◌+◌, ◌==◌, ◌&&◌, ◌||◌, not, Bool, true, false, nat_lt, codes, if◌then◌else◌, List, [], ◌∷◌, ◌++◌, length, take, Option, Some, None, is_some}
use Rattle.std.specs.Option.{option_map, option_and_then}
use Rattle.std.specs.Str.{bytes_eq, IsCharBoundary}
use Rattle.wi_text.specs.private.Machines.{first_stop}
use Rattle.std.specs.Char.{encode_utf8, is_ascii_control}
use Rattle.wi_text.specs.Characters.{is_name_byte, is_space, is_plain, is_number}
use Rattle.wi_syntax.specs.Names.{Named}
use Rattle.wi_syntax.specs.Grammar.{plain}
use Rattle.wi_syntax.specs.declared.token.Mark.{Mark}
use Rattle.wi_syntax.specs.declared.token.Mark.TheVariants.{Less, Greater, OpenRound, CloseRound, OpenSquare, CloseSquare, Hash, Dot, Comma, Caret, Star, Plus, Question, Bar}
use Rattle.wi_syntax.specs.declared.token.Token.TheVariants as token
use Rattle.wi_syntax.specs.declared.places.NamePlace.{NamePlace}
use Rattle.wi_syntax.specs.declared.places.NamePlace.TheVariants as name
use Rattle.wi_syntax.specs.declared.places.PairPlace.{PairPlace}
use Rattle.wi_syntax.specs.declared.places.PairPlace.TheVariants as pair
use Rattle.wi_syntax.specs.declared.parser.Stage.{Stage}
use Rattle.wi_syntax.specs.declared.parser.Stage.TheVariants as stage
use Rattle.wi_syntax.specs.declared.written.Written.{Written}
use Rattle.wi_syntax.specs.private.Parsing.{Parse, is_whole, start, after, token_of, finish}

-- the mark that a byte is
abbrev pub mark_of : ℕ → Option Mark
mark_of b =
    if b == 60 then Some Less else if b == 62 then Some Greater else if b == 40 then Some OpenRound else if b == 41 then Some CloseRound else
    if b == 91 then Some OpenSquare else if b == 93 then Some CloseSquare else if b == 35 then Some Hash else if b == 46 then Some Dot else
    if b == 44 then Some Comma else if b == 94 then Some Caret else if b == 42 then Some Star else if b == 43 then Some Plus else
    if b == 63 then Some Question else if b == 124 then Some Bar else None

-- a name is due in a list
abbrev pub is_name_due : NamePlace → Bool
is_name_due (name.Whole n) = false
is_name_due _ = true

abbrev pub is_word_due : PairPlace → Bool
is_word_due pair.Opened = true
is_word_due pair.Due = true
is_word_due (pair.FromInterfaceDue n) = true
is_word_due (pair.ToDue from) = true
is_word_due (pair.ToInterfaceDue from n) = true
is_word_due _ = false

-- any name may come next
abbrev pub takes_names : Parse → Stage → Bool
takes_names p (stage.Labels h) = true
takes_names p (stage.LabelList h) = is_name_due p.names.place
takes_names p (stage.LinkList o) = is_word_due p.pairs.place
takes_names p _ = false

-- a text begins a word
abbrev pub begins : List ℕ → List ℕ → Bool
begins s word = bytes_eq s (take (length s) word)

-- these plain characters begin a word that may come next where no name may
abbrev pub may_begin : Parse → Stage → List ℕ → Bool
may_begin p stage.Links s = is_whole p.path && begins s (codes "drop")
may_begin p stage.Number s = is_number s
may_begin p stage.BehindNumber s = begins s (codes "down") || begins s (codes "up")
may_begin p stage.BehindDown s = begins s (codes "up")
may_begin p _ s = false

-- what is begun may come next, when it is finished
abbrev pub admits : Parse → Named → Bool
admits p n = takes_names p p.stage || (not n.quoted && may_begin p p.stage n.text)

-- all that was read: how many bytes, the tokens that are finished, and the name that is begun
pub record Reading : Type 0 where
  pub at : ℕ
  pub parse : Parse
  pub begun : Option Named

abbrev pub reading : ℕ → Parse → Option Named → Reading
reading at p n = record { at = at; parse = p; begun = n }

-- a name that is begun, where it may come next
abbrev pub keep : ℕ → Parse → Named → Option Reading
keep at p n = if admits p n then Some (reading at p (Some n)) else None

-- behind a token that was finished
abbrev pub behind : ℕ → Option Parse → Option Reading
behind at next = option_map (λ q. reading at q None) next

-- with more characters
abbrev pub longer : Named → List ℕ → Named
longer n bs = record { at = n.at; quoted = n.quoted; text = n.text ++ bs }

-- what begins at a byte, or with a character of so many bytes, where nothing is begun
abbrev pub begin : ℕ → ℕ → Parse → ℕ → Option Reading
begin at next p b =
    if is_plain b then keep next p (plain at (b ∷ []))
    else if is_space b then Some (reading next p None)
    else if b == 34 then keep next p (record { at = at; quoted = true; text = [] })
    else option_and_then (λ m. behind next (after p (token_of p at m))) (mark_of b)

-- behind a name without quotation marks
abbrev pub after_plain : ℕ → ℕ → Parse → Named → ℕ → Option Reading
after_plain at next p n b =
    if is_plain b then keep next p (longer n (b ∷ [])) else option_and_then (λ q. begin at next q b) (after p (token.Word n))

-- behind a quotation mark and some characters
abbrev pub end_quoted : ℕ → Parse → Named → Option Reading
end_quoted next p n = if nat_lt 0 (length n.text) then behind next (after p (token.Word n)) else None

abbrev pub after_quoted : ℕ → Parse → Named → ℕ → Option Reading
after_quoted next p n b =
    if b == 34 then end_quoted next p n else if is_name_byte b then Some (reading next p (Some (longer n (b ∷ [])))) else None

-- the same with a whole character
abbrev pub after_quoted_char : ℕ → Parse → Named → ℕ → Option Reading
after_quoted_char next p n c =
    if c == 34 then end_quoted next p n else if is_ascii_control c then None else Some (reading next p (Some (longer n (encode_utf8 c))))

-- what was read after one more byte, where some query goes on so
abbrev pub after_byte : Reading → ℕ → Option Reading
after_byte r b =
    elim r.begun [
      | None ↦ begin r.at (r.at + 1) r.parse b
      | Some n ↦ if n.quoted then after_quoted (r.at + 1) r.parse n b else after_plain r.at (r.at + 1) r.parse n b
    ]

-- and after one more character
abbrev pub after_char : Reading → ℕ → Option Reading
after_char r c =
    elim r.begun [
      | None ↦ begin r.at (r.at + length (encode_utf8 c)) r.parse c
      | Some n ↦
          if n.quoted then after_quoted_char (r.at + length (encode_utf8 c)) r.parse n c
          else after_plain r.at (r.at + length (encode_utf8 c)) r.parse n c
    ]

-- what was read after bytes
abbrev pub after_bytes : Reading → List ℕ → Option Reading
after_bytes r [] = Some r
after_bytes r (b ∷ bs) = option_and_then (λ t. after_bytes t bs) (after_byte r b)

-- the query that was read, if it may end here
abbrev pub finished : Reading → Option Written
finished r =
    elim r.begun [
      | None ↦ finish r.parse
      | Some n ↦ if n.quoted then None else option_and_then finish (after r.parse (token.Word n))
    ]

abbrev pub may_stop : Reading → Bool
may_stop r = is_some (finished r)

abbrev pub nothing_read : Reading
nothing_read = reading 0 start None

-- all of a text was read, or no query goes on behind so many of its bytes
abbrev pub IsReadTo : List ℕ → Option ℕ → Reading → Type 0
IsReadTo text None r = after_bytes nothing_read text ≡ Some r
IsReadTo text (Some at) r = IsCharBoundary text at × (first_stop after_byte may_stop nothing_read 0 text ≡ Some at)
