use Rattle.wi_query.proofs.Fine.{query_fine}
use Rattle.wi_query.proofs.laws.a_query_has_no_fault.Goals as goal

pub returns : goal.returns
returns c = query_fine
