-- What the rules of a pushdown system are made of, for a problem.
use Rattle.std.specs.Prelude.{ℕ, Bool, ◌==◌, List, take}
use Rattle.std.specs.List.{filter, list_any, range_with_len}
use Rattle.wi_net.specs.Net.{entry, risk_count}
use Rattle.wi_nfa.specs.Rows.{automaton_of}
use Rattle.wi_query.specs.Compiled.{Compiled}
use Rattle.wi_query.specs.Sets.{holds}
use Rattle.wi_world.specs.Moves.{before_end}
use Rattle.wi_quantity.specs.Weighing.{first_weight, entry_weight, end_weight}
use Rattle.wi_rules.specs.Rules.{Automaton, Encoding}
use Rattle.wi_build.specs.Problems.{Problem}

-- the states that come after one by a symbol, in rising order, and those that come before one
abbrev pub after : Compiled → ℕ → ℕ → List ℕ
after e q x = filter (λ r. (automaton_of holds e.nfa).reads r x) ((automaton_of holds e.nfa).next q)

abbrev pub comes_after : Compiled → ℕ → ℕ → ℕ → Bool
comes_after e q x r = list_any (λ n. n == r) (after e q x)

abbrev pub before : Compiled → ℕ → ℕ → List ℕ
before e q x = filter (λ p. comes_after e p x q) (range_with_len 0 (automaton_of holds e.nfa).states)

abbrev pub automaton : Compiled → Automaton
automaton e = record { states = (automaton_of holds e.nfa).states; next = after e; accepts = (automaton_of holds e.nfa).accepts }

-- a weight has five terms, and then the effort, which the rules count
abbrev pub encoding_of : Problem → Encoding
encoding_of problem = record {
  net = problem.net;
  bounds = problem.bounds;
  first = automaton problem.query.first;
  first_before = before problem.query.first;
  path = automaton problem.query.path;
  last = automaton problem.query.last;
  drops = problem.query.drops;
  terms = 5;
  first_share = λ e. take 5 (first_weight problem.net problem.vector e.0);
  step_share = λ e l step. take 5 (entry_weight problem.net problem.vector (entry problem.net e l) step.group step.member);
  end_share = λ e l end. take 5 (end_weight problem.vector (risk_count problem.net (before_end problem.net (entry problem.net e l) end)));
}
