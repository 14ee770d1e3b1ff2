use Rattle.wi_build.specs.Problems.{allowing}
use Rattle.wi_branch.specs.private.Counting.{IsShownTolerated}
use Rattle.wi_branch.proofs.counting.climb_on.Given as goal

abbrev pub invariant-loop-k : goal.invariant-loop-k
invariant-loop-k l = IsShownTolerated (allowing l.problem) l.limit l.k l.no
