use Rattle.wi_build.specs.Problems.{allowing}
use Rattle.wi_branch.proofs.ToleranceLaws.{trial_later}
use Rattle.wi_branch.proofs.counting.climb.Goals as goal

pub returns-in-Enough-clause-tried : goal.returns-in-Enough-clause-tried
returns-in-Enough-clause-tried c = trial_later (allowing c.args.problem.now) c.args.limit c.args.first c.args.last _ c.in-Enough.found c.in-Enough.is c.requires.order c.in_ok-found.ensures.tried
