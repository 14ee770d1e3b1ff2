use Rattle.std.proofs.Common.{arith, length-drop}
use Rattle.std.proofs.lemmas.List.{take_all}
use Rattle.wi_system.proofs.Known.{taken_more}
use Rattle.wi_system.proofs.transfer.write_whole.Goals as goal

pub loop-rest-preserved : goal.loop-rest-preserved
loop-rest-preserved g c =
    taken_more _ _ _ _ _ _ c.in_ok-written.written c.loop-rest.invariant c.in_ok-written.ensures.bytes (take_all _ _ (omega (arith, length-drop c.in_ok-written.written c.loop-rest.rest.now)))
