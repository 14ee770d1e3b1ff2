use Rattle.std.proofs.Common.{ℕ, ◌<◌, false, IsTrue, slice_index_or}
use Rattle.wi_nfa.specs.Rows.{automaton_of}
use Rattle.wi_nfa.proofs.nfa.Nfa.any_accepts.Given as goal

abbrev pub invariant-loop-p : goal.invariant-loop-p
invariant-loop-p g l = (k : ℕ) → k < l.p → IsTrue (slice_index_or l.marks k false) → IsTrue ((automaton_of g.A.Atom.set l.self).accepts k) → ⊥
