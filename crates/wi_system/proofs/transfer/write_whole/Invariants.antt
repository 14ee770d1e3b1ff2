use Rattle.std.proofs.Common.{length}
use Rattle.wi_system.proofs.Known.{IsTaken}
use Rattle.wi_system.proofs.transfer.write_whole.Given as goal

abbrev pub invariant-loop-rest : goal.invariant-loop-rest
invariant-loop-rest g l = IsTaken (g.W.Write.contents l.initial.to) (g.W.Write.contents l.to) l.piece l.rest

abbrev pub decreases-loop-rest : goal.decreases-loop-rest
decreases-loop-rest g l = length l.rest
