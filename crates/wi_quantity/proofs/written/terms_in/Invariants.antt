use Rattle.std.proofs.Common.{◌≡◌, drop}
use Rattle.wi_quantity.specs.private.Noting.{note_all, nothing}
use Rattle.wi_quantity.proofs.written.terms_in.Given as goal

abbrev pub invariant-loop-i : goal.invariant-loop-i
invariant-loop-i l = note_all l.noted l.i (drop l.i l.text) ≡ note_all nothing 0 l.text
