use Rattle.wi_branch.proofs.answers.exact.Goals as goal

pub returns-clause-refused : goal.returns-clause-refused
returns-clause-refused c = rw (c.within.ensures, c.in_ok-whole.ensures.value) at c.exactly-answered.ensures.refused
