use Rattle.std.proofs.Common.{sym}
use Rattle.wi_trace.proofs.HopLemmas.{hop_not_taken}
use Rattle.wi_trace.proofs.hop.hop.Goals as goal

pub returns-in-Err-clause-cause : goal.returns-in-Err-clause-cause
returns-in-Err-clause-cause c = sym (hop_not_taken c.args.world.now c.args.net.now c.args.at.now c.args.step c.in-Err.cause (rw c.in-Err.is at c.in_ok-member.ensures.err))
