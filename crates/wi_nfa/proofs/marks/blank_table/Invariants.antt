use Rattle.std.proofs.Common.{ℕ, ◌≡◌, Bool, false, Some, Vec, vec_len, replicate}
use Rattle.std.specs.Prelude.{slice_get}
use Rattle.std.specs.declared.alloc.Global.{Global}
use Rattle.wi_nfa.proofs.marks.blank_table.Given as goal

abbrev pub invariant-loop-row : goal.invariant-loop-row
invariant-loop-row l = record {
  len : vec_len l.rows ≡ l._row;
  rows : (p : ℕ) (row : Vec Bool Global) → slice_get l.rows.items p ≡ Some row → row.items ≡ replicate l.size false;
}
