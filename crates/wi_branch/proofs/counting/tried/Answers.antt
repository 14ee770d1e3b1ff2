use Rattle.wi_build.specs.Problems.{allowing}
use Rattle.wi_branch.proofs.ToleranceLaws.{stopped_tells, tried_tells}
use Rattle.wi_branch.proofs.counting.tried.Goals as goal

pub returns-in-Ok-clause-tried : goal.returns-in-Ok-clause-tried
returns-in-Ok-clause-tried c =
    rw c.trial_by.ensures
    (tried_tells (allowing c.args.problem.now) c.args.limit c.args.k c.in-Ok.answer c.in-Ok.tree c.args.below c.requires.fewer c.requires.below c.in-Ok.ensures.exact c.in-Ok.ensures.accepted)

pub returns-in-Err-clause-refused : goal.returns-in-Err-clause-refused
returns-in-Err-clause-refused c =
    rw c.stopped_at.ensures
    (stopped_tells (allowing c.args.problem.now) c.args.limit c.args.k c.in-Err.refused c.requires.fewer c.in-Err.ensures.refused)
