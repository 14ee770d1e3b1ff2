use Rattle.wi_ask.proofs.question.give.Goals as goal

pub returns-in-Verify-clause-given : goal.returns-in-Verify-clause-given
returns-in-Verify-clause-given g c = rw c.in-Verify.is c.verify.ensures.reported

pub returns-in-Verify-clause-refused : goal.returns-in-Verify-clause-refused
returns-in-Verify-clause-refused g c = rw c.in-Verify.is c.verify.ensures.refused

pub returns-in-Check-clause-given : goal.returns-in-Check-clause-given
returns-in-Check-clause-given g c = rw c.in-Check.is c.check.ensures.believed

pub returns-in-Check-clause-refused : goal.returns-in-Check-clause-refused
returns-in-Check-clause-refused g c = rw c.in-Check.is c.check.ensures.refused

pub returns-in-Exact-clause-given : goal.returns-in-Exact-clause-given
returns-in-Exact-clause-given g c = rw c.in-Exact.is c.exact.ensures.reported

pub returns-in-Exact-clause-refused : goal.returns-in-Exact-clause-refused
returns-in-Exact-clause-refused g c = rw c.in-Exact.is c.exact.ensures.refused

pub returns-in-CheckExact-clause-given : goal.returns-in-CheckExact-clause-given
returns-in-CheckExact-clause-given g c = rw c.in-CheckExact.is c.check_exact.ensures.believed

pub returns-in-CheckExact-clause-refused : goal.returns-in-CheckExact-clause-refused
returns-in-CheckExact-clause-refused g c = rw c.in-CheckExact.is c.check_exact.ensures.refused

pub returns-in-Tolerate-clause-given : goal.returns-in-Tolerate-clause-given
returns-in-Tolerate-clause-given g c = rw c.in-Tolerate.is c.tolerate.ensures.told_with

pub returns-in-Tolerate-clause-refused : goal.returns-in-Tolerate-clause-refused
returns-in-Tolerate-clause-refused g c = rw c.in-Tolerate.is c.tolerate.ensures.refused
