use Rattle.std.proofs.Common.{◌≡◌, drop}
use Rattle.wi_quantity.specs.private.Meaning.{unknown_among}
use Rattle.wi_quantity.proofs.read.unknown_among.Given as goal

abbrev pub invariant-loop-term : goal.invariant-loop-term
invariant-loop-term l = unknown_among (drop l.term-index l.terms) ≡ unknown_among l.terms
