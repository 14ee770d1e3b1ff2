use Rattle.wi_app.proofs.app.obey.Goals as goal

pub returns-in-Print-clause-others : goal.returns-in-Print-clause-others
returns-in-Print-clause-others g c = rw c.in-Print.is c.answer.ensures.others

pub returns-in-Print-clause-does : goal.returns-in-Print-clause-does
returns-in-Print-clause-does g c = rw c.in-Print.is c.answer.ensures.does

pub returns-in-Audit-clause-others : goal.returns-in-Audit-clause-others
returns-in-Audit-clause-others g c = λ name outside. c.audit.ensures.files name

pub returns-in-Audit-clause-does : goal.returns-in-Audit-clause-does
returns-in-Audit-clause-does g c = rw c.in-Audit.is c.audit.ensures.does
