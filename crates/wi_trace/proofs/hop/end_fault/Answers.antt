use Rattle.std.proofs.Common.{sym}
use Rattle.wi_trace.proofs.HopLemmas.{end_not_taken}
use Rattle.wi_trace.proofs.hop.end_fault.Goals as goal

pub returns-in-Err : goal.returns-in-Err
returns-in-Err c = rw c.in-Undefined.is (sym (end_not_taken c.args.world.now c.args.net.now c.args.at.now c.in-Undefined.step c.in-Err.cause (rw c.in-Err.is at c.in_ok-member-in-Undefined.ensures.err)))
