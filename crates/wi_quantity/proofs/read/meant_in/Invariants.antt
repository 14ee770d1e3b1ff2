use Rattle.std.proofs.Common.{◌≡◌, ◌++◌, filter_map, drop}
use Rattle.wi_quantity.specs.private.Meaning.{small_meant}
use Rattle.wi_quantity.proofs.read.meant_in.Given as goal

abbrev pub invariant-loop-part : goal.invariant-loop-part
invariant-loop-part l = l.term.items ++ filter_map small_meant (drop l.part-index l.parts) ≡ filter_map small_meant l.parts
