use Rattle.std.proofs.Common.{◌≡◌, drop}
use Rattle.wi_net.specs.LinkSet.{outside}
use Rattle.wi_script.proofs.sets.remove_all.Given as goal

abbrev pub invariant-loop-i : goal.invariant-loop-i
invariant-loop-i l = outside l.set (drop l.i l.fewer) ≡ outside l.initial.set l.fewer
