use Rattle.std.specs.List.{IsDistinct}
use Rattle.std.proofs.Common.{arith}
use Rattle.wi_reduce.proofs.worklist.Worklist.new.Goals as goal

pub invariant_of-result : goal.invariant_of-result
unfolding IsDistinct
invariant_of-result g c = rw c.new-2.ensures.items (omega arith, tt, c.new.ensures)
