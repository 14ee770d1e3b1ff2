-- The operation is the one that is stated.
use Rattle.std.proofs.Common.{rules}
use Rattle.wi_gen.proofs.groups.bypass_op.Goals as goal

pub returns-then-d-size : goal.returns-then-d-size
returns-then-d-size c = search rules

pub returns-else-d-size : goal.returns-else-d-size
returns-else-d-size c = search rules
