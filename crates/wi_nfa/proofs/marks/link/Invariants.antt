use Rattle.std.proofs.Common.{◌≡◌, Contains, vec_len, take}
use Rattle.wi_nfa.specs.private.Marks.{IsSquare, AddsMarks}
use Rattle.wi_nfa.proofs.marks.link.Given as goal

abbrev pub invariant-loop-p : goal.invariant-loop-p
invariant-loop-p l = record {
  len : vec_len l.rows ≡ vec_len l.initial.rows;
  square : IsSquare l.rows.items (vec_len l.rows);
  marks : AddsMarks l.initial.rows.items l.rows.items (λ p q. Contains (take l.p-index l.ends) p × Contains l.begins q);
}
