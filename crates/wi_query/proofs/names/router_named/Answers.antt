-- The name is told.
use Rattle.wi_query.proofs.Firsts.{told}
use Rattle.wi_query.proofs.names.router_named.Goals as goal

pub returns-in_ok-text_of-in-None-clause-refused : goal.returns-in_ok-text_of-in-None-clause-refused
returns-in_ok-text_of-in-None-clause-refused c = told _ _ _ _ c.at.ensures c.in_ok-text_of-in-None.ensures.text
