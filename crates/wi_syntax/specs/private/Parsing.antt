-- How a query is read, token by token.
use Rattle.std.specs.Prelude.{ℕ, ◌+◌, ◌-◌, ◌==◌, ◌&&◌, not, Bool, true, false, if◌then◌else◌, codes, List, [], ◌∷◌, ◌++◌, Option, Some, None}
use Rattle.std.specs.Option.{option_map, option_and_then}
use Rattle.std.specs.Str.{bytes_eq}
use Rattle.wi_text.specs.Characters.{is_number}
use Rattle.wi_syntax.specs.Names.{Named}
use Rattle.wi_syntax.specs.declared.token.Mark.{Mark}
use Rattle.wi_syntax.specs.declared.token.Mark.TheVariants.{Less, Greater, OpenRound, CloseRound, OpenSquare, Dot, Star, Plus, Question, Bar}
use Rattle.wi_syntax.specs.declared.token.Token.{Token}
use Rattle.wi_syntax.specs.declared.token.Token.TheVariants as token
use Rattle.wi_syntax.specs.declared.written.LabelAtom.{LabelAtom}
use Rattle.wi_syntax.specs.declared.written.LabelAtom.TheVariants as label
use Rattle.wi_syntax.specs.declared.written.LinkAtom.{LinkAtom}
use Rattle.wi_syntax.specs.declared.written.LinkAtom.TheVariants as link
use Rattle.wi_syntax.specs.declared.written.Sign.{Sign}
use Rattle.wi_syntax.specs.declared.written.Sign.TheVariants as sign
use Rattle.wi_syntax.specs.declared.written.Known.{Known}
use Rattle.wi_syntax.specs.declared.written.Last.{Last as LastPart}
use Rattle.wi_syntax.specs.declared.written.Last.TheVariants as ending
use Rattle.wi_syntax.specs.declared.written.Written.{Written}
use Rattle.wi_syntax.specs.declared.parser.Stage.{Stage}
use Rattle.wi_syntax.specs.declared.parser.Stage.TheVariants as stage
use Rattle.wi_syntax.specs.declared.parser.Header.{Header}
use Rattle.wi_syntax.specs.declared.parser.Header.TheVariants.{First, Last}
use Rattle.wi_syntax.specs.declared.parser.Owner.{Owner}
use Rattle.wi_syntax.specs.declared.parser.Owner.TheVariants as owner
use Rattle.wi_syntax.specs.private.Lists.{NameListing, PairListing, no_names, no_pairs, no_known, after_in_names, after_in_pairs, is_end_due}

-- an expression that is being read: its signs, how many brackets are open, and whether an item stands last
pub record Phrasing (A : Type 0) : Type 0 where
  pub signs : List (Sign A)
  pub depth : ℕ
  pub behind : Bool

-- what it means that something goes on as it is now, or that it doesn't
abbrev pub goes : {S : Type 0} → S → Bool → Option S
goes s true = Some s
goes s false = None

-- no sign yet
abbrev pub no_phrasing : {A : Type 0} → Phrasing A
no_phrasing = record { signs = []; depth = 0; behind = false }

-- it has an item last, and no bracket is open
abbrev pub is_whole : {A : Type 0} → Phrasing A → Bool
is_whole p = p.behind && (p.depth == 0)

abbrev pub with_atom : {A : Type 0} → Phrasing A → A → Phrasing A
with_atom p a = record { signs = p.signs ++ sign.Atom a ∷ []; depth = p.depth; behind = true }

-- with a sign behind an item
abbrev pub if_behind : {A : Type 0} → Phrasing A → Sign A → Bool → Option (Phrasing A)
if_behind p s behind = if p.behind then Some (record { signs = p.signs ++ s ∷ []; depth = p.depth; behind = behind }) else None

-- an expression after a mark that is a sign
abbrev pub after_sign : {A : Type 0} → Phrasing A → Mark → Option (Phrasing A)
after_sign p OpenRound = Some (record { signs = p.signs ++ sign.Open ∷ []; depth = p.depth + 1; behind = false })
after_sign p CloseRound =
    if p.behind && not (p.depth == 0) then Some (record { signs = p.signs ++ sign.Close ∷ []; depth = p.depth - 1; behind = true }) else None
after_sign p Star = if_behind p sign.Star true
after_sign p Plus = if_behind p sign.Plus true
after_sign p Question = if_behind p sign.Maybe true
after_sign p Bar = if_behind p sign.Or false
after_sign p m = None

-- all that was read so far
pub record Parse : Type 0 where
  pub stage : Stage
  pub first : Phrasing LabelAtom
  pub path : Phrasing LinkAtom
  pub last : Phrasing LabelAtom
  pub drop_at : Option ℕ
  pub names : NameListing
  pub pairs : PairListing
  pub number : Option Named
  pub word_at : ℕ
  pub down : Option Known
  pub up : Option Known

-- nothing was read
abbrev pub start : Parse
start = record {
  stage = stage.Start;
  first = no_phrasing;
  path = no_phrasing;
  last = no_phrasing;
  drop_at = None;
  names = no_names;
  pairs = no_pairs;
  number = None;
  word_at = 0;
  down = None;
  up = None;
}

-- the expression of a header, and where its end leads
abbrev pub phrase_of : Header → Parse → Phrasing LabelAtom
phrase_of First p = p.first
phrase_of Last p = p.last

abbrev pub with_phrase : Header → Parse → Phrasing LabelAtom → Parse
with_phrase First p e = record p { stage = stage.Labels First; first = e }
with_phrase Last p e = record p { stage = stage.Labels Last; last = e }

abbrev pub stage_after : Header → Stage
stage_after First = stage.Links
stage_after Last = stage.Number

-- in an expression over labels
abbrev pub after_in_labels : Header → Parse → Token → Option Parse
after_in_labels h p (token.Word n) = Some (with_phrase h p (with_atom (phrase_of h p) (label.Name n)))
after_in_labels h p (token.Mark Dot) = Some (with_phrase h p (with_atom (phrase_of h p) label.Any))
after_in_labels h p (token.Mark OpenSquare) = Some (record p { stage = stage.LabelList h; names = no_names })
after_in_labels h p (token.Mark Greater) = if is_whole (phrase_of h p) then Some (record p { stage = stage_after h }) else None
after_in_labels h p (token.Mark m) = option_map (with_phrase h p) (after_sign (phrase_of h p) m)
after_in_labels h p (token.AnyEnd at) = None

-- a word without quotation marks
abbrev pub is_keyword : Named → List ℕ → Bool
is_keyword n word = not n.quoted && bytes_eq n.text word

-- at a word behind the path, which stands in place of the last header
abbrev pub after_behind_path : Parse → Named → Option Parse
after_behind_path p n =
    if is_whole p.path && is_keyword n (codes "drop") then Some (record p { stage = stage.Number; drop_at = Some n.at }) else None

-- in an expression over links
abbrev pub with_path : Parse → Phrasing LinkAtom → Parse
with_path p e = record p { stage = stage.Links; path = e }

abbrev pub after_in_links : Parse → Token → Option Parse
after_in_links p (token.Word n) = after_behind_path p n
after_in_links p (token.Mark Dot) = Some (with_path p (with_atom p.path link.Any))
after_in_links p (token.Mark OpenSquare) = Some (record p { stage = stage.LinkList owner.Path; pairs = no_pairs })
after_in_links p (token.Mark Less) = if is_whole p.path then Some (record p { stage = stage.Labels Last }) else None
after_in_links p (token.Mark m) = option_map (with_path p) (after_sign p.path m)
after_in_links p (token.AnyEnd at) = None

-- at the end of a list, or further in it
abbrev pub with_names : Header → Parse → NameListing × Bool → Parse
with_names h p (l, false) = record p { names = l }
with_names h p (l, true) = with_phrase h (record p { names = no_names }) (with_atom (phrase_of h p) (label.List l.except l.items))

abbrev pub with_list : Owner → Parse → PairListing → Parse
with_list owner.Path p l = with_path p (with_atom p.path (link.List l.except l.items))
with_list owner.Down p l = record p { stage = stage.BehindDown; down = Some (record { at = p.word_at; pairs = l.items }) }
with_list owner.Up p l = record p { stage = stage.BehindUp; up = Some (record { at = p.word_at; pairs = l.items }) }

abbrev pub with_pairs : Owner → Parse → PairListing × Bool → Parse
with_pairs o p (l, false) = record p { pairs = l }
with_pairs o p (l, true) = with_list o (record p { pairs = no_pairs }) l

abbrev pub after_at_number : Parse → Token → Option Parse
after_at_number p (token.Word n) = if not n.quoted && is_number n.text then Some (record p { stage = stage.BehindNumber; number = Some n }) else None
after_at_number p _ = None

-- where `up` may come, and where `down` may come too
abbrev pub after_before_up : Parse → Token → Option Parse
after_before_up p (token.Word n) = if is_keyword n (codes "up") then Some (record p { stage = stage.UpDue; word_at = n.at }) else None
after_before_up p _ = None

abbrev pub after_before_down : Parse → Token → Option Parse
after_before_down p (token.Word n) =
    if is_keyword n (codes "down") then Some (record p { stage = stage.DownDue; word_at = n.at }) else after_before_up p (token.Word n)
after_before_down p _ = None

-- where a list of links that are known down or up is due
abbrev pub after_word : Owner → Parse → Token → Option Parse
after_word o p (token.Mark OpenSquare) = Some (record p { stage = stage.LinkList o; pairs = no_known })
after_word o p _ = None

abbrev pub after_start : Parse → Token → Option Parse
after_start p (token.Mark Less) = Some (record p { stage = stage.Labels First })
after_start p _ = None

-- what was read after one more token, where some query goes on so
abbrev pub after_at : Stage → Parse → Token → Option Parse
after_at stage.Start p t = after_start p t
after_at (stage.Labels h) p t = after_in_labels h p t
after_at (stage.LabelList h) p t = option_map (with_names h p) (after_in_names p.names t)
after_at stage.Links p t = after_in_links p t
after_at (stage.LinkList o) p t = option_map (with_pairs o p) (after_in_pairs p.pairs t)
after_at stage.Number p t = after_at_number p t
after_at stage.BehindNumber p t = after_before_down p t
after_at stage.DownDue p t = after_word owner.Down p t
after_at stage.BehindDown p t = after_before_up p t
after_at stage.UpDue p t = after_word owner.Up p t
after_at stage.BehindUp p t = None

abbrev pub after : Parse → Token → Option Parse
after p t = after_at p.stage p t

-- the token that a mark at a byte is: a dot where an end of a pair may begin is that end
abbrev pub takes_ends : Parse → Stage → Bool
takes_ends p (stage.LinkList o) = is_end_due p.pairs.place
takes_ends p _ = false

abbrev pub token_of : Parse → ℕ → Mark → Token
token_of p at Dot = if takes_ends p p.stage then token.AnyEnd at else token.Mark Dot
token_of p at m = token.Mark m

-- the last header that was read, or the word in its place
abbrev pub last_of : Option ℕ → Phrasing LabelAtom → LastPart
last_of None header = ending.Header header.signs
last_of (Some at) header = ending.Dropped at

-- the query may end
abbrev pub may_end : Stage → Bool
may_end stage.BehindNumber = true
may_end stage.BehindDown = true
may_end stage.BehindUp = true
may_end _ = false

abbrev pub finish : Parse → Option Written
finish p =
    if may_end p.stage then option_map (λ n. record {
      first = p.first.signs;
      path = p.path.signs;
      last = last_of p.drop_at p.last;
      number = n;
      down = p.down;
      up = p.up;
    }) p.number else None

-- what was read after tokens
abbrev pub after_all : Parse → List Token → Option Parse
after_all p [] = Some p
after_all p (t ∷ ts) = option_and_then (λ q. after_all q ts) (after p t)
