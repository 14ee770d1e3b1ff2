-- The parts of a query, once its names are known, and what may still be wrong with them.
use Rattle.std.specs.Prelude.{◌≡◌, ℕ, ◌≤◌, ◌<◌, ◌^◌, true, false, nat_lt, length, List, [], ◌∷◌, Option, Some, None}
use Rattle.std.specs.List.{find}
use Rattle.std.specs.Str.Parse.{digits_value}
use Rattle.wi_regex.specs.declared.regex.Regex.{Regex}
use Rattle.wi_regex.specs.Matching.{position_count}
use Rattle.wi_nfa.specs.declared.nfa.TheConstants.{POSITION_LIMIT}
use Rattle.wi_net.specs.declared.parts.LinkId.{LinkId}
use Rattle.wi_net.specs.declared.bounds.Bounds.{Bounds}
use Rattle.wi_net.specs.LinkSet.{has}
use Rattle.wi_net.specs.Net.{Net}
use Rattle.wi_text.specs.Prefixes.{IsFaultAt}
use Rattle.wi_syntax.specs.Names.{Named}
use Rattle.wi_syntax.specs.Grammar.{IsQueryText}
use Rattle.wi_syntax.specs.declared.written.Written.{Written}
use Rattle.wi_query.specs.declared.bounds.TheConstants.{FAILURE_LIMIT}
use Rattle.wi_query.specs.declared.query.TheConstants.{LENGTH_LIMIT}
use Rattle.wi_query.specs.Sets.{SymbolMarks, is_label_of, is_link_of}
use Rattle.wi_query.specs.Last.{last_signs, is_dropped}
use Rattle.wi_query.specs.Meaning.{AreSignsOf, HasAutomata, known_links}
use Rattle.wi_query.specs.Faults.{is_large}
use Rattle.wi_query.specs.declared.fault.QueryFault.{QueryFault}
use Rattle.wi_query.specs.declared.fault.QueryFault.TheVariants.{Memory, TooLong, Syntax, TooManyPositions, TooManyFailures, DownAndUp}
use Rattle.wi_query.specs.declared.parts.Parts.{Parts}
use Rattle.wi_query.specs.declared.query.Query.{Query}

-- the parts of a written query
pub record AreParts (net : Net) (w : Written) (parts : Parts) : Type 0 where
  pub first : AreSignsOf (is_label_of net) w.first parts.first
  pub path : AreSignsOf (is_link_of net) w.path parts.path
  pub last : AreSignsOf (is_label_of net) (last_signs w.last) parts.last
  pub drops : parts.drops ≡ is_dropped w.last
  pub down : parts.down ≡ known_links net w.down
  pub up : parts.up ≡ known_links net w.up

-- no expression has more positions than a number in memory can tell
pub record AreCounted (parts : Parts) : Type 0 where
  pub first : position_count parts.first < 2 ^ 64
  pub path : position_count parts.path < 2 ^ 64
  pub last : position_count parts.last < 2 ^ 64

-- an expression has too many positions, and the fault tells how many
abbrev pub IsOver : ℕ → Regex SymbolMarks → QueryFault → Type 0
IsOver number r Memory = Unit {0}
IsOver number r (TooManyPositions i n) = (nat_lt POSITION_LIMIT (position_count r) ≡ true) × (i ≡ number) × (n ≡ position_count r)
IsOver number r fault = ⊥

-- the number is over the limit, and the fault tells where it starts
abbrev pub IsTooMany : Named → QueryFault → Type 0
IsTooMany number (TooManyFailures at) = (is_large number ≡ true) × (at ≡ number.at)
IsTooMany number fault = ⊥

-- the least link that is known both down and up
abbrev pub shared : List LinkId → List LinkId → Option LinkId
shared down up = find (λ e. has up e) down

-- what may fail
pub record AreBoundsOf (number : Named) (downs ups : List LinkId) (bounds : Bounds) : Type 0 where
  pub k : bounds.k ≡ digits_value 10 number.text
  pub few : bounds.k ≤ FAILURE_LIMIT
  pub down : bounds.down ≡ downs
  pub up : bounds.up ≡ ups
  pub apart : shared downs ups ≡ None

abbrev pub IsRefusedBound : Named → List LinkId → List LinkId → QueryFault → Type 0
IsRefusedBound number down up (TooManyFailures at) = (is_large number ≡ true) × (at ≡ number.at)
IsRefusedBound number down up (DownAndUp e) = (is_large number ≡ false) × (shared down up ≡ Some e)
IsRefusedBound number down up fault = ⊥

-- the first of three expressions that has too many positions, and how many
abbrev pub too_many_in : Parts → Option (ℕ × ℕ)
too_many_in parts = find (λ e. nat_lt POSITION_LIMIT e.1) ((1, position_count parts.first) ∷ (2, position_count parts.path) ∷ (3, position_count parts.last) ∷ [])

-- the query of parts and a number
pub record IsMadeOf (parts : Parts) (number : Named) (query : Query) : Type 0 where
  pub first : query.first.regex ≡ parts.first
  pub path : query.path.regex ≡ parts.path
  pub last : query.last.regex ≡ parts.last
  pub drops : query.drops ≡ parts.drops
  pub automata : HasAutomata query
  pub bounds : AreBoundsOf number parts.down parts.up query.bounds

-- what is wrong with them
abbrev pub IsWrong : Parts → Named → QueryFault → Type 0
IsWrong parts number Memory = Unit {0}
IsWrong parts number (TooManyPositions i n) = too_many_in parts ≡ Some (i, n)
IsWrong parts number (TooManyFailures at) = (too_many_in parts ≡ None) × (is_large number ≡ true) × (at ≡ number.at)
IsWrong parts number (DownAndUp e) = (too_many_in parts ≡ None) × (is_large number ≡ false) × (shared parts.down parts.up ≡ Some e)
IsWrong parts number fault = ⊥

-- the text is too long, or not of the form of a query
abbrev pub IsNoQuery : List ℕ → QueryFault → Type 0
IsNoQuery text Memory = Unit {0}
IsNoQuery text (TooLong n) = (nat_lt LENGTH_LIMIT n ≡ true) × (n ≡ length text)
IsNoQuery text (Syntax k) = (nat_lt LENGTH_LIMIT (length text) ≡ false) × IsFaultAt IsQueryText text k
IsNoQuery text fault = ⊥
