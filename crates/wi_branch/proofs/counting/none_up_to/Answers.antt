use Rattle.std.proofs.Common.{ℕ, arith, subst}
use Rattle.wi_build.specs.Problems.{allowing}
use Rattle.wi_branch.specs.Tolerance.{ShowsNo}
use Rattle.wi_branch.proofs.counting.none_up_to.Goals as goal

pub returns-then-last-most-clause-tolerance : goal.returns-then-last-most-clause-tolerance
returns-then-last-most-clause-tolerance c = (
  (λ j within. c.requires.none j (omega (arith, within))),
  subst (λ (k : ℕ). ShowsNo (allowing c.args.problem.now k) c.args.limit c.args.no) c.if-last-most.true c.requires.shown,
)
