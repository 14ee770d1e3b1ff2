-- The ring that was meant.
use Rattle.std.proofs.Common.{rules}
use Rattle.wi_gen.proofs.ring.RingPlan.new.Goals as goal

pub returns : goal.returns
returns c = search rules
