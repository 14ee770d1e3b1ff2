use Rattle.std.proofs.Common.{arith}
use Rattle.wi_build.specs.Problems.{allowing}
use Rattle.wi_branch.proofs.ToleranceLaws.{between_next, met_tells}
use Rattle.wi_branch.proofs.counting.narrow.Goals as goal

pub loop-between-preserved : goal.loop-between-preserved
loop-between-preserved c =
    rw c.narrowed-between.ensures
    (between_next c.args.problem.now c.args.most c.args.limit c.loop-between.between c.middle_of-middle.result c.in-Some.answer c.in-Some.tree c.loop-between.invariant c.middle_of-middle.ensures.least
    c.middle_of-middle.ensures.less c.in-Some.ensures)

pub returns-clause-tolerance : goal.returns-clause-tolerance
returns-clause-tolerance c = rw c.met.ensures (met_tells (allowing c.args.problem.now) c.args.most c.args.limit c.loop-between.between c.loop-between.invariant (omega (arith, c.loop-between-test.false)))
