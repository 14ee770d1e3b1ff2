-- How links that are known are read behind a query's front.
use Rattle.std.specs.Prelude.{◌≡◌, ℕ, ◌+◌, ◌-◌, ◌≤◌, Bool, true, false, nat_lt, List, [], ◌∷◌, length, string_bytes, Some, None}
use Rattle.std.specs.Option.{option_map}
use Rattle.wi_net.specs.declared.bounds.Bounds.{Bounds}
use Rattle.wi_net.specs.Net.{Net}
use Rattle.wi_text.specs.Prefixes.{IsFaultAt}
use Rattle.wi_syntax.specs.Atoms.{pair_at}
use Rattle.wi_syntax.specs.declared.written.Written.{Written}
use Rattle.wi_query.specs.declared.query.TheConstants.{LENGTH_LIMIT}
use Rattle.wi_query.specs.Unknown.{Unknown, ARouter, AnInterface, unknown_in}
use Rattle.wi_query.specs.Meaning.{known_links}
use Rattle.wi_query.specs.Linked.{first_linkless}
use Rattle.wi_query.specs.Given.{front, first_shared, IsGivenText}
use Rattle.wi_query.specs.declared.fault.QueryFault.{QueryFault}
use Rattle.wi_query.specs.declared.fault.QueryFault.TheVariants.{Memory, TooLong, Syntax, UnknownRouter, UnknownInterface, DownAndUp}
use Rattle.wi_query.specs.declared.strict.StrictFault.{StrictFault}
use Rattle.wi_query.specs.declared.strict.StrictFault.TheVariants.{InQuery, NoLink}

-- the text is too long, or no lists of links
abbrev pub IsNoGiven : List ℕ → QueryFault → Type 0
IsNoGiven text Memory = Unit {0}
IsNoGiven text (TooLong n) = (nat_lt LENGTH_LIMIT n ≡ true) × (n ≡ length text)
IsNoGiven text (Syntax at) = (nat_lt LENGTH_LIMIT (length text) ≡ false) × IsFaultAt IsGivenText text at
IsNoGiven text fault = ⊥

-- a name that isn't known stands behind the front
abbrev pub IsFar : QueryFault → Type 0
IsFar (UnknownRouter at text) = length front ≤ at
IsFar (UnknownInterface at text) = length front ≤ at
IsFar fault = Unit {0}

-- the fault, with its byte counted from the end of the front
abbrev pub counted : QueryFault → QueryFault
counted (UnknownRouter at text) = UnknownRouter (at - length front) text
counted (UnknownInterface at text) = UnknownInterface (at - length front) text
counted fault = fault

-- a fault tells the first of these names, with its byte counted so
abbrev pub IsFirstBehind : List Unknown → QueryFault → Type 0
IsFirstBehind names Memory = Unit {0}
IsFirstBehind names (UnknownRouter at text) = (quoted : Bool) × (rest : List Unknown) × (names ≡ (ARouter, record { at = length front + at; quoted = quoted; text = string_bytes text }) ∷ rest)
IsFirstBehind names (UnknownInterface at text) = (quoted : Bool) × (rest : List Unknown) × (names ≡ (AnInterface, record { at = length front + at; quoted = quoted; text = string_bytes text }) ∷ rest)
IsFirstBehind names fault = ⊥

-- a link is known both down and up, or a pair means no link, and no name is unknown
abbrev pub IsWrongPair : Net → Written → StrictFault → Type 0
IsWrongPair net w (InQuery (DownAndUp e)) = first_shared net w ≡ Some e
IsWrongPair net w (InQuery fault) = ⊥
IsWrongPair net w (NoLink at) = (first_shared net w ≡ None) × (option_map pair_at (first_linkless net w) ≡ Some (length front + at))

-- what is wrong with the lists that are written, if anything
abbrev pub IsWrongGiven : Net → Written → StrictFault → Type 0
IsWrongGiven net w (InQuery Memory) = Unit {0}
IsWrongGiven net w (InQuery (UnknownRouter at text)) = IsFirstBehind (unknown_in net w) (UnknownRouter at text)
IsWrongGiven net w (InQuery (UnknownInterface at text)) = IsFirstBehind (unknown_in net w) (UnknownInterface at text)
IsWrongGiven net w (InQuery (DownAndUp e)) = (unknown_in net w ≡ []) × (first_shared net w ≡ Some e)
IsWrongGiven net w (InQuery fault) = ⊥
IsWrongGiven net w (NoLink at) = (unknown_in net w ≡ []) × (first_shared net w ≡ None) × (option_map pair_at (first_linkless net w) ≡ Some (length front + at))

-- the bounds that are written
pub record AreGiven (net : Net) (w : Written) (bounds : Bounds) : Type 0 where
  pub known : unknown_in net w ≡ []
  pub k : bounds.k ≡ 0
  pub down : bounds.down ≡ known_links net w.down
  pub up : bounds.up ≡ known_links net w.up
  pub apart : first_shared net w ≡ None
  pub linked : first_linkless net w ≡ None
