use Rattle.std.proofs.Common.{◌-◌}
use Rattle.wi_build.specs.Problems.{allowing}
use Rattle.wi_branch.specs.private.Counting.{IsBetween}
use Rattle.wi_branch.proofs.counting.narrow.Given as goal

abbrev pub decreases-loop-between : goal.decreases-loop-between
decreases-loop-between l = l.between.high - l.between.low

abbrev pub invariant-loop-between : goal.invariant-loop-between
invariant-loop-between l = IsBetween (allowing l.problem) l.most l.limit l.between
