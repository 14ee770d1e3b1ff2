-- Expressions with their automata.
use Rattle.std.specs.Prelude.{ℕ, ◌≤◌, ◌<◌, ◌≡◌, true}
use Rattle.wi_regex.specs.declared.regex.Regex.{Regex}
use Rattle.wi_regex.specs.declared.regex.Regex.TheVariants as regex
use Rattle.wi_regex.specs.Matching.{position_count}
use Rattle.wi_nfa.specs.declared.nfa.TheConstants.{POSITION_LIMIT}
use Rattle.wi_nfa.specs.Rows.{Tables, automaton_of}
use Rattle.wi_nfa.specs.Automata.{IsPositionAutomaton}
use Rattle.wi_query.specs.Sets.{SymbolMarks, holds}

-- an expression, and an automaton as tables
pub record Compiled : Type 0 where
  pub regex : Regex SymbolMarks
  pub nfa : Tables SymbolMarks

-- the automaton is the expression's own, and has no more states than an automaton may have
pub record HasAutomaton (e : Compiled) : Type 0 where
  pub automaton : IsPositionAutomaton holds e.regex (automaton_of holds e.nfa)
  pub few : position_count e.regex ≤ POSITION_LIMIT

-- the symbols of each atom are below a number
abbrev pub IsWithin : ℕ → Regex SymbolMarks → Type 0
IsWithin n (regex.Atom set) = (x : ℕ) → holds set x ≡ true → x < n
IsWithin n (regex.Concat' p a q b) = IsWithin n a × IsWithin n b
IsWithin n (regex.Either' p a q b) = IsWithin n a × IsWithin n b
IsWithin n (regex.Star' p a) = IsWithin n a
IsWithin n (regex.Plus' p a) = IsWithin n a
IsWithin n (regex.Maybe' p a) = IsWithin n a

-- an expression over so many symbols, with no more positions than an automaton may have
pub record IsExpressionOver (symbols : ℕ) (r : Regex SymbolMarks) : Type 0 where
  pub within : IsWithin symbols r
  pub few : position_count r ≤ POSITION_LIMIT
