use Rattle.std.proofs.Common.{◌≡◌, take}
use Rattle.wi_net.proofs.names.Names.add_all.Given as goal

abbrev pub invariant-loop-i : goal.invariant-loop-i
invariant-loop-i l = l.self.0 ≡ take l.i l.other.0
