use Rattle.std.proofs.Common.{◌≡◌, ℕ, [], length}
use Rattle.std.specs.Prelude.{slice_index_or}
use Rattle.wi_draw.proofs.marks.no_labels.Given as goal

abbrev pub invariant-loop : goal.invariant-loop
invariant-loop l = record {
  count : length l.labels.items ≡ l.counter;
  blank : (n : ℕ) → slice_index_or l.labels.items n [] ≡ [];
}
