use Rattle.std.proofs.Common.{◌≡◌, drop}
use Rattle.wi_quantity.specs.private.Meaning.{large_in}
use Rattle.wi_quantity.proofs.read.large_in.Given as goal

abbrev pub invariant-loop-part : goal.invariant-loop-part
invariant-loop-part l = large_in (drop l.part-index l.parts) ≡ large_in l.parts
