use Rattle.std.proofs.Common.{◌≡◌, ◌++◌, map, filter_map, drop}
use Rattle.wi_quantity.specs.private.Meaning.{small_meant}
use Rattle.wi_quantity.proofs.read.meant.Given as goal

abbrev pub invariant-loop-term : goal.invariant-loop-term
invariant-loop-term l = l.vector.items ++ map (filter_map small_meant) (drop l.term-index l.terms) ≡ map (filter_map small_meant) l.terms
