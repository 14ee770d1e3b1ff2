-- The query, and what is asked of its pairs.
use Rattle.wi_query.proofs.Linkless.{strict_query, no_link}
use Rattle.wi_query.proofs.strict.strict_query.Goals as goal

pub returns-in-None-clause-read : goal.returns-in-None-clause-read
returns-in-None-clause-read c = λ text short. strict_query c.args.net.now text c.args.written.now c.in_ok-query.query _ short c.in_ok-query.ensures.read c.first_linkless.ensures c.in-None.is

pub returns-in-Some-clause-refused : goal.returns-in-Some-clause-refused
returns-in-Some-clause-refused c = λ text short. no_link c.args.net.now text c.args.written.now c.in_ok-query.query _ c.in-Some.at short c.in_ok-query.ensures.read c.first_linkless.ensures c.in-Some.is
