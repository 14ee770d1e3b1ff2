use Rattle.wi_gen.proofs.TextsFine.{the_query_is_one, the_weights_are_some}
use Rattle.wi_gen.proofs.laws.the_texts_have_no_fault.Goals as goal

pub returns-clause-query : goal.returns-clause-query
returns-clause-query c = the_query_is_one

pub returns-clause-weights : goal.returns-clause-weights
returns-clause-weights c = the_weights_are_some
