use Rattle.std.proofs.Common.{ℕ, ◌≡◌, ◌↔◌, false, IsTrue, vec_len, slice_index_or}
use Rattle.wi_nfa.specs.Rows.{automaton_of}
use Rattle.wi_nfa.specs.private.Sets.{LedFrom}
use Rattle.wi_nfa.proofs.nfa.Nfa.led.Given as goal

abbrev pub invariant-loop-p : goal.invariant-loop-p
invariant-loop-p g l = record {
  len : vec_len l.led ≡ l.size;
  led : (t : ℕ) → IsTrue (slice_index_or l.led.items t false) ↔ LedFrom (automaton_of g.A.Atom.set l.self) l.marks l.p l.symbol.0 t;
}
