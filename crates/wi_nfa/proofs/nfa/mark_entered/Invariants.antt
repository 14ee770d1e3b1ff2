use Rattle.std.proofs.Common.{◌≡◌, true, vec_len, take, Contains}
use Rattle.wi_nfa.specs.private.Marks.{AddsSome}
use Rattle.wi_nfa.specs.Rows.{reads_at}
use Rattle.wi_nfa.proofs.nfa.mark_entered.Given as goal

abbrev pub invariant-loop-q : goal.invariant-loop-q
invariant-loop-q g l = record {
  len : vec_len l.marks ≡ vec_len l.initial.marks;
  marks : AddsSome l.initial.marks.items l.marks.items (λ q. Contains (take l.q-index l.row) q × (reads_at g.A.Atom.set l.atoms q l.symbol.0 ≡ true));
}
