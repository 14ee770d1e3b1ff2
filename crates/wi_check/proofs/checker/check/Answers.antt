use Rattle.std.proofs.Common.{subst}
use Rattle.wi_build.specs.Problems.{Problem}
use Rattle.wi_accept.proofs.AcceptedLemmas.{answer_holds}
use Rattle.wi_check.specs.private.Stages.{NoneClosed}
use Rattle.wi_check.proofs.StageLemmas.{accepted}
use Rattle.wi_check.proofs.checker.check.Goals as goal

pub returns-in-Ok-clause-accepted : goal.returns-in-Ok-clause-accepted
returns-in-Ok-clause-accepted c =
    accepted c.args.problem.now c.args.certificate.now c.in_ok-check_shown.ensures.passed
    (subst (λ (p : Problem). NoneClosed p c.args.certificate.now.shown c.args.certificate.now.closed 3) c.in_ok-system.ensures (rw c.in-Ok.is at c.check_closed-closed.ensures.passed))

pub returns-in-Ok-clause-holds : goal.returns-in-Ok-clause-holds
returns-in-Ok-clause-holds c = answer_holds c.args.problem.now c.args.certificate.now c.keeps.ensures.problem c.requires (returns-in-Ok-clause-accepted c)
