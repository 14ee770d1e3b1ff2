use Rattle.wi_ask.proofs.check_exact.checked.Goals as goal

pub returns-clause-accepted : goal.returns-clause-accepted
returns-clause-accepted c = rw c.bounds.ensures at c.check_tree.ensures.accepted

pub returns-clause-holds : goal.returns-clause-holds
returns-clause-holds c = rw c.bounds.ensures at c.check_tree.ensures.holds

pub returns-clause-refused : goal.returns-clause-refused
returns-clause-refused c = rw c.bounds.ensures at c.check_tree.ensures.refused
