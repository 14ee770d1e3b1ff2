use Rattle.std.proofs.Common.{◌≡◌, ◌+◌, ℕ, arith, subst}
use Rattle.wi_build.specs.Problems.{allowing}
use Rattle.wi_branch.specs.private.Counting.{IsShownTolerated}
use Rattle.wi_branch.proofs.ToleranceLaws.{shows_below, trial_later}
use Rattle.wi_branch.proofs.counting.climb_on.Goals as goal

pub tried-requires-clause-fewer : goal.tried-requires-clause-fewer
tried-requires-clause-fewer c = c.loop-k.invariant.0

pub tried-requires-clause-below : goal.tried-requires-clause-below
tried-requires-clause-below c = shows_below (allowing c.args.problem.now) c.args.limit c.loop-k.k c.loop-k.no c.loop-k.invariant.1

pub returns-in-Enough-clause-tried : goal.returns-in-Enough-clause-tried
returns-in-Enough-clause-tried c = trial_later (allowing c.args.problem.now) c.args.limit (c.loop-k.k + 1) c.args.last _ c.in-Enough.found c.in-Enough.is (omega (arith, c.loop-k-test.true)) c.in_ok-found.ensures.tried

pub loop-k-preserved : goal.loop-k-preserved
loop-k-preserved c = rw c.in-TooFew.is at c.in_ok-found.ensures.tried

pub returns-clause-tried : goal.returns-clause-tried
returns-clause-tried c =
    let same : c.loop-k.k ≡ c.args.last = omega (arith, c.loop-k-test.false, c.loop-k.auto.k-end, c.requires.order) in
    subst (λ (k : ℕ). IsShownTolerated (allowing c.args.problem.now) c.args.limit k c.loop-k.no) same c.loop-k.invariant
