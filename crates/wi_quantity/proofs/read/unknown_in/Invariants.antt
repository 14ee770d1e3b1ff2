use Rattle.std.proofs.Common.{◌≡◌, drop}
use Rattle.wi_quantity.specs.private.Meaning.{unknown_in}
use Rattle.wi_quantity.proofs.read.unknown_in.Given as goal

abbrev pub invariant-loop-part : goal.invariant-loop-part
invariant-loop-part l = unknown_in (drop l.part-index l.parts) ≡ unknown_in l.parts
