-- A distance is computed as it is stated.
use Rattle.std.proofs.Common.{rules}
use Rattle.wi_gen.proofs.ring.RingPlan.distance.Goals as goal

pub returns : goal.returns
returns c = search rules
