use Rattle.wi_branch.proofs.answers.exact_answer.Goals as goal

pub returns-clause-refused : goal.returns-clause-refused
returns-clause-refused c = rw (c.within.ensures, c.in_ok-whole.ensures.value) at c.answered-answered.ensures.refused
