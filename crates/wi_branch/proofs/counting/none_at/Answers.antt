use Rattle.std.proofs.Common.{arith}
use Rattle.wi_build.specs.Problems.{allowing}
use Rattle.wi_branch.proofs.ToleranceLaws.{none_shows, stopped_tells}
use Rattle.wi_branch.proofs.counting.none_at.Goals as goal

pub returns-in-Ok-clause-tolerance : goal.returns-in-Ok-clause-tolerance
returns-in-Ok-clause-tolerance c = (
  (λ j within. c.requires.none j (omega (arith, within))),
  none_shows (allowing c.args.problem.now c.args.most) c.args.limit c.in-Ok.answer c.in-Ok.no (c.requires.none c.args.most (omega arith)) c.in-Ok.ensures.exact c.in-Ok.ensures.accepted,
)

pub returns-in-Err-clause-refused : goal.returns-in-Err-clause-refused
returns-in-Err-clause-refused c =
    rw c.stopped_at.ensures
    (stopped_tells (allowing c.args.problem.now) c.args.limit c.args.most c.in-Err.refused (λ j less. c.requires.none j (omega (arith, less))) c.in-Err.ensures.refused c.args.most (omega arith))
