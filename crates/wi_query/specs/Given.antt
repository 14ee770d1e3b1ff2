-- Links that are known down and up, given by a text of their own: it is read as what a query may end with.
use Rattle.std.specs.Prelude.{◌≡◌, ℕ, ◌+◌, Bool, true, false, nat_lt, codes, List, [], ◌∷◌, ◌++◌, length, string_bytes, Option, Some, None}
use Rattle.std.specs.List.{find}
use Rattle.std.specs.Option.{option_map}
use Rattle.wi_net.specs.declared.bounds.Bounds.{Bounds}
use Rattle.wi_net.specs.declared.parts.LinkId.{LinkId}
use Rattle.wi_net.specs.LinkSet.{has}
use Rattle.wi_net.specs.Net.{Net}
use Rattle.wi_text.specs.Prefixes.{IsFaultAt}
use Rattle.wi_world.specs.Moves.{AreBounds}
use Rattle.wi_syntax.specs.Atoms.{pair_at}
use Rattle.wi_syntax.specs.Names.{Named}
use Rattle.wi_syntax.specs.Grammar.{Reads, IsQueryText}
use Rattle.wi_syntax.specs.declared.written.Written.{Written}
use Rattle.wi_query.specs.declared.query.TheConstants.{LENGTH_LIMIT}
use Rattle.wi_query.specs.Unknown.{Kind, ARouter, AnInterface, unknown_in}
use Rattle.wi_query.specs.Meaning.{known_links}
use Rattle.wi_query.specs.Linked.{first_linkless}
use Rattle.wi_query.specs.declared.fault.QueryFault.TheVariants.{Memory, TooLong, Syntax, UnknownRouter, UnknownInterface, DownAndUp}
use Rattle.wi_query.specs.declared.strict.StrictFault.{StrictFault}
use Rattle.wi_query.specs.declared.strict.StrictFault.TheVariants.{InQuery, NoLink}

-- what a text is read behind: a query's front, so that its own bytes begin where these end
abbrev pub front : List ℕ
front = codes "<.> . <.> 0 "

-- the text is lists of links that are known down and up, as a query may end with
abbrev pub IsGivenText : List ℕ → Type 0
IsGivenText text = IsQueryText (front ++ text)

-- a text that isn't too long is written so
pub record IsShortGiven (text : List ℕ) (w : Written) : Type 0 where
  pub short : nat_lt LENGTH_LIMIT (length text) ≡ false
  pub reads : Reads (front ++ text) w

-- these bounds are given by a text: none fails besides, and each pair means a link
pub record IsGiven (net : Net) (text : List ℕ) (bounds : Bounds) : Type 0 where
  pub short : nat_lt LENGTH_LIMIT (length text) ≡ false
  pub written : Written
  pub reads : Reads (front ++ text) written
  pub known : unknown_in net written ≡ []
  pub k : bounds.k ≡ 0
  pub down : bounds.down ≡ known_links net written.down
  pub up : bounds.up ≡ known_links net written.up
  pub keeps : AreBounds net bounds
  pub linked : first_linkless net written ≡ None

-- the first link that is known both down and up
abbrev pub first_shared : Net → Written → Option LinkId
first_shared net w = find (λ d. has (known_links net w.up) d) (known_links net w.down)

-- the first name that isn't known is of this kind, and starts at this byte of the text
abbrev pub IsUnknownGiven : Net → List ℕ → Kind → ℕ → List ℕ → Type 0
IsUnknownGiven net text kind at name =
    (w : Written) × IsShortGiven text w × (quoted : Bool) × (rest : List (Kind × Named)) × (unknown_in net w ≡ (kind, record { at = length front + at; quoted = quoted; text = name }) ∷ rest)

-- the text's first fault, in the order of a query's, and behind all others a pair that means no link
abbrev pub IsGivenFault : Net → List ℕ → StrictFault → Type 0
IsGivenFault net text (InQuery Memory) = Unit {0}
IsGivenFault net text (InQuery (TooLong n)) = (nat_lt LENGTH_LIMIT n ≡ true) × (n ≡ length text)
IsGivenFault net text (InQuery (Syntax at)) = (nat_lt LENGTH_LIMIT (length text) ≡ false) × IsFaultAt IsGivenText text at
IsGivenFault net text (InQuery (UnknownRouter at name)) = IsUnknownGiven net text ARouter at (string_bytes name)
IsGivenFault net text (InQuery (UnknownInterface at name)) = IsUnknownGiven net text AnInterface at (string_bytes name)
IsGivenFault net text (InQuery (DownAndUp e)) = (w : Written) × IsShortGiven text w × (unknown_in net w ≡ []) × (first_shared net w ≡ Some e)
IsGivenFault net text (InQuery fault) = ⊥
IsGivenFault net text (NoLink at) = (w : Written) × IsShortGiven text w × (unknown_in net w ≡ []) × (first_shared net w ≡ None) × (option_map pair_at (first_linkless net w) ≡ Some (length front + at))
