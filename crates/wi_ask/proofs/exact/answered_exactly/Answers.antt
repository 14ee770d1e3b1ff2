use Rattle.wi_ask.proofs.exact.answered_exactly.Goals as goal

pub returns-in-Ok-clause-answered : goal.returns-in-Ok-clause-answered
returns-in-Ok-clause-answered c = rw c.bounds.ensures at c.in-Ok.ensures.answered

pub returns-in-Err-clause-refused : goal.returns-in-Err-clause-refused
returns-in-Err-clause-refused c = c.refusal_for.ensures c.args.problem.now (rw c.bounds.ensures at c.in-Err.ensures.refused) c.terms.ensures
