use Rattle.std.proofs.Common.{ℕ, ◌≡◌, ◌<◌, IsTrue, vec_len}
use Rattle.wi_nfa.specs.Automata.{ListsRising}
use Rattle.wi_nfa.specs.private.Marks.{marked}
use Rattle.wi_nfa.specs.Rows.{row}
use Rattle.wi_nfa.proofs.tables.rows_of.Given as goal

abbrev pub invariant-loop-p : goal.invariant-loop-p
invariant-loop-p l = record {
  len : vec_len l.rows ≡ l.p;
  rows : (k : ℕ) → k < l.p → ListsRising (row l.rows.items k) (λ t. IsTrue (marked l.marks k t));
}
