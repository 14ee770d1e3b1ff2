use Rattle.std.proofs.Common.{◌≡◌, drop}
use Rattle.wi_net.specs.LinkSet.{outside}
use Rattle.wi_net.specs.RiskGroups.{union}
use Rattle.wi_settle.proofs.sets.insert_outside.Given as goal

abbrev pub invariant-loop-i : goal.invariant-loop-i
invariant-loop-i l = union l.set (outside (drop l.i l.more) l.known) ≡ union l.initial.set (outside l.more l.known)
