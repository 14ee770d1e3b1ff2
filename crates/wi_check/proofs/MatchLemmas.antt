-- What an expression's automaton says of a word is what the expression says.
use Rattle.std.proofs.Common.{◌≡◌, ℕ, Bool, true, false, List, Result, Ok, subst}
use Rattle.std.specs.Prelude.{◌↔◌, IsTrue}
use Rattle.wi_base.specs.declared.no_memory.NoMemory.{NoMemory}
use Rattle.wi_regex.specs.Matching.{Matches}
use Rattle.wi_nfa.specs.Automata.{AcceptsFrom}
use Rattle.wi_nfa.specs.Rows.{Tables, automaton_of}
use Rattle.wi_nfa.proofs.Walks.{accepted}
use Rattle.wi_query.specs.Sets.{SymbolMarks, holds}
use Rattle.wi_query.specs.Compiled.{Compiled, HasAutomaton}

abbrev said : Bool → Result Bool NoMemory
said b = Ok b

same_answer : (a b : Bool) → said a ≡ said b → a ≡ b
same_answer a b h = cc

clash : (a : Bool) → a ≡ false → a ≡ true → ⊥
clash a h k = cc

module _ (e : Compiled) (has : HasAutomaton e) (m : Tables SymbolMarks) (is : m ≡ e.nfa) (a : Bool) (w : List ℕ) (says : IsTrue a ↔ AcceptsFrom (automaton_of holds m) 0 w) where
  own : IsTrue a ↔ AcceptsFrom (automaton_of holds e.nfa) 0 w
  own = subst (λ (n : Tables SymbolMarks). IsTrue a ↔ AcceptsFrom (automaton_of holds n) 0 w) is says

  pub yes_matches : said a ≡ said true → Matches holds e.regex w
  yes_matches h = (accepted holds e.regex (automaton_of holds e.nfa) has.automaton w).0 (own.0 (same_answer a true h))

  pub no_match : said a ≡ said false → Matches holds e.regex w → ⊥
  no_match h matches = clash a (same_answer a false h) (own.1 ((accepted holds e.regex (automaton_of holds e.nfa) has.automaton w).1 matches))
