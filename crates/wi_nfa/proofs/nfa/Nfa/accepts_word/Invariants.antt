use Rattle.std.proofs.Common.{◌↔◌, drop}
use Rattle.wi_nfa.specs.Automata.{AcceptsFrom}
use Rattle.wi_nfa.specs.Rows.{automaton_of}
use Rattle.wi_nfa.specs.Sets.{symbols}
use Rattle.wi_nfa.specs.private.Sets.{AcceptedFrom}
use Rattle.wi_nfa.proofs.nfa.Nfa.accepts_word.Given as goal

abbrev pub invariant-loop-symbol : goal.invariant-loop-symbol
invariant-loop-symbol g l = record {
  same : AcceptsFrom (automaton_of g.A.Atom.set l.self) 0 (symbols l.word)
      ↔ AcceptedFrom (automaton_of g.A.Atom.set l.self) l.marks.items (automaton_of g.A.Atom.set l.self).states (symbols (drop l.symbol-index l.word));
}
