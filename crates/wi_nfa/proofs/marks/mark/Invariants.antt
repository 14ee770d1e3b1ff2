use Rattle.std.proofs.Common.{◌≡◌, vec_len, take, Contains}
use Rattle.wi_nfa.specs.private.Marks.{AddsSome}
use Rattle.wi_nfa.proofs.marks.mark.Given as goal

abbrev pub invariant-loop-q : goal.invariant-loop-q
invariant-loop-q l = record {
  len : vec_len l.row ≡ vec_len l.initial.row;
  marks : AddsSome l.initial.row.items l.row.items (λ q. Contains (take l.q-index l.places) q);
}
