use Rattle.std.proofs.Common.{◌≡◌, take}
use Rattle.wi_net.specs.RiskGroups.{union}
use Rattle.wi_trace.proofs.sets.insert_all.Given as goal

abbrev pub invariant-loop-i : goal.invariant-loop-i
invariant-loop-i l = l.set ≡ union l.initial.set (take l.i l.more)
