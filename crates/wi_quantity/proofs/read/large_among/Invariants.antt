use Rattle.std.proofs.Common.{◌≡◌, drop}
use Rattle.wi_quantity.specs.private.Meaning.{large_among}
use Rattle.wi_quantity.proofs.read.large_among.Given as goal

abbrev pub invariant-loop-term : goal.invariant-loop-term
invariant-loop-term l = large_among (drop l.term-index l.terms) ≡ large_among l.terms
