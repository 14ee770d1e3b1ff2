use Rattle.wi_audit.proofs.Known.{exact_known, open_outcome, open_showable}
use Rattle.wi_audit.proofs.outcome.outcome_of.Goals as goal

pub returns-in-Ok-clause-outcome : goal.returns-in-Ok-clause-outcome
returns-in-Ok-clause-outcome c = rw c.bounds.ensures at c.in-Ok.ensures.answered

pub returns-in-Ok-clause-known : goal.returns-in-Ok-clause-known
returns-in-Ok-clause-known c = exact_known c.args.problem.now c.in-Ok.answer (rw c.bounds.ensures at c.in-Ok.ensures.answered).exact.holds

pub returns-in-Err-clause-outcome : goal.returns-in-Err-clause-outcome
returns-in-Err-clause-outcome c = open_outcome c.open_for.result c.args.problem.now c.in-Err.cause c.open_for.ensures.open c.open_for.ensures.decided (rw c.bounds.ensures at c.in-Err.ensures.refused)

pub returns-in-Err-clause-known : goal.returns-in-Err-clause-known
returns-in-Err-clause-known c = open_showable c.open_for.result c.args.problem.now.net c.in-Err.cause c.open_for.ensures.open
