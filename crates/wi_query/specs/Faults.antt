-- The first fault of a query's text, in this order: how long it is, its syntax, its names, how many positions its
-- expressions have, its number, and links that are known both down and up.
use Rattle.std.specs.Prelude.{◌≡◌, ℕ, nat_lt, true, false, Bool, List, [], ◌∷◌, length, filter, string_bytes, Option, Some, None}
use Rattle.std.specs.List.{find}
use Rattle.std.specs.Str.Parse.{digits_value}
use Rattle.wi_nfa.specs.declared.nfa.TheConstants.{POSITION_LIMIT}
use Rattle.wi_net.specs.LinkSet.{has}
use Rattle.wi_net.specs.Net.{Net}
use Rattle.wi_text.specs.Prefixes.{IsFaultAt}
use Rattle.wi_syntax.specs.Names.{Named}
use Rattle.wi_syntax.specs.declared.written.Sign.{Sign}
use Rattle.wi_syntax.specs.declared.written.Sign.TheVariants as sign
use Rattle.wi_syntax.specs.declared.written.Written.{Written}
use Rattle.wi_syntax.specs.Grammar.{Reads, IsQueryText}
use Rattle.wi_query.specs.declared.bounds.TheConstants.{FAILURE_LIMIT}
use Rattle.wi_query.specs.declared.query.TheConstants.{LENGTH_LIMIT}
use Rattle.wi_query.specs.Last.{last_signs}
use Rattle.wi_query.specs.Unknown.{Kind, ALabel, ARouter, AnInterface, unknown_in}
use Rattle.wi_query.specs.Meaning.{known_links}
use Rattle.wi_query.specs.declared.fault.QueryFault.{QueryFault}
use Rattle.wi_query.specs.declared.fault.QueryFault.TheVariants.{Memory, TooLong, Syntax, UnknownLabel, UnknownRouter, UnknownInterface, TooManyPositions, TooManyFailures, DownAndUp}

-- how many atoms there are among signs: the positions of their expression
abbrev pub is_atom : {A : Type 0} → Sign A → Bool
is_atom (sign.Atom a) = true
is_atom s = false

abbrev pub atom_count : {A : Type 0} → List (Sign A) → ℕ
atom_count signs = length (filter is_atom signs)

-- the first of the three expressions, from 1, that has too many positions, and how many
abbrev pub too_many_positions : Written → Option (ℕ × ℕ)
too_many_positions w = find (λ e. nat_lt POSITION_LIMIT e.1) ((1, atom_count w.first) ∷ (2, atom_count w.path) ∷ (3, atom_count (last_signs w.last)) ∷ [])

-- a text that isn't too long is written so
pub record IsShort (text : List ℕ) (w : Written) : Type 0 where
  pub short : nat_lt LENGTH_LIMIT (length text) ≡ false
  pub reads : Reads text w

-- and its names are known
pub record IsKnown (net : Net) (text : List ℕ) (w : Written) : Type 0 where
  pub written : IsShort text w
  pub known : unknown_in net w ≡ []

-- and no expression has too many positions
pub record IsSmall (net : Net) (text : List ℕ) (w : Written) : Type 0 where
  pub written : IsKnown net text w
  pub few : too_many_positions w ≡ None

-- the first name that isn't known is of this kind, and starts at this byte
abbrev pub IsUnknown : Net → List ℕ → Kind → ℕ → List ℕ → Type 0
IsUnknown net text kind at name = (w : Written) × IsShort text w × (quoted : Bool) × (rest : List (Kind × Named)) × (unknown_in net w ≡ (kind, record { at = at; quoted = quoted; text = name }) ∷ rest)

-- the number is over the limit
abbrev pub is_large : Named → Bool
is_large number = nat_lt FAILURE_LIMIT (digits_value 10 number.text)

-- the text's first fault
abbrev pub IsFault : Net → List ℕ → QueryFault → Type 0
IsFault net text Memory = Unit {0}
IsFault net text (TooLong n) = (nat_lt LENGTH_LIMIT n ≡ true) × (n ≡ length text)
IsFault net text (Syntax k) = (nat_lt LENGTH_LIMIT (length text) ≡ false) × IsFaultAt IsQueryText text k
IsFault net text (UnknownLabel at name) = IsUnknown net text ALabel at (string_bytes name)
IsFault net text (UnknownRouter at name) = IsUnknown net text ARouter at (string_bytes name)
IsFault net text (UnknownInterface at name) = IsUnknown net text AnInterface at (string_bytes name)
IsFault net text (TooManyPositions i n) = (w : Written) × IsKnown net text w × (too_many_positions w ≡ Some (i, n))
IsFault net text (TooManyFailures at) = (w : Written) × IsSmall net text w × (is_large w.number ≡ true) × (at ≡ w.number.at)
IsFault net text (DownAndUp e) = (w : Written) × IsSmall net text w × (is_large w.number ≡ false) × (find (λ d. has (known_links net w.up) d) (known_links net w.down) ≡ Some e)
