use Rattle.std.proofs.Common.{◌≡◌, drop}
use Rattle.wi_quantity.specs.private.Syntax.{stop}
use Rattle.wi_quantity.specs.declared.written.Stage.TheVariants.{Start}
use Rattle.wi_quantity.proofs.written.stop.Given as goal

abbrev pub invariant-loop-i : goal.invariant-loop-i
invariant-loop-i l = stop Start 0 l.text ≡ stop l.stage l.i (drop l.i l.text)
