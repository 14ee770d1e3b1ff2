use Rattle.std.proofs.Common.{arith}
use Rattle.wi_build.specs.Problems.{allowing}
use Rattle.wi_branch.proofs.ToleranceLaws.{all_below_tell}
use Rattle.wi_branch.proofs.counting.climb_between.Goals as goal

pub returns-in-Ok-Enough-clause-tolerance : goal.returns-in-Ok-Enough-clause-tolerance
returns-in-Ok-Enough-clause-tolerance c = let within = c.requires.between.within in (rw c.in-Ok-Enough.field-0-is at c.in-Ok-Enough.ensures.tried) c.args.most (omega (arith, within))

pub returns-in-Ok-TooFew-clause-tolerance : goal.returns-in-Ok-TooFew-clause-tolerance
returns-in-Ok-TooFew-clause-tolerance c = all_below_tell (allowing c.args.problem.now) c.args.most c.args.limit c.args.between c.in-Ok-TooFew.no c.requires.between c.requires.apart (rw c.in-Ok-TooFew.field-0-is at c.in-Ok-TooFew.ensures.tried)
