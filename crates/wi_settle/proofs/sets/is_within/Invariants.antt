use Rattle.std.proofs.Common.{◌≡◌, drop}
use Rattle.wi_net.specs.LinkSet.{is_within}
use Rattle.wi_settle.proofs.sets.is_within.Given as goal

abbrev pub invariant-loop-i : goal.invariant-loop-i
invariant-loop-i l = is_within (drop l.i l.set) l.other ≡ is_within l.set l.other
