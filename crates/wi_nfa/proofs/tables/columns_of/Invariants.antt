use Rattle.std.proofs.Common.{ℕ, ◌≡◌, ◌<◌, IsTrue, vec_len}
use Rattle.wi_nfa.specs.Automata.{ListsRising}
use Rattle.wi_nfa.specs.private.Marks.{marked}
use Rattle.wi_nfa.specs.Rows.{row}
use Rattle.wi_nfa.proofs.tables.columns_of.Given as goal

abbrev pub invariant-loop-q : goal.invariant-loop-q
invariant-loop-q l = record {
  len : vec_len l.columns ≡ l.q;
  rows : (k : ℕ) → k < l.q → ListsRising (row l.columns.items k) (λ t. IsTrue (marked l.marks t k));
}
