use Rattle.wi_query.proofs.Strictly.{strict_fine}
use Rattle.wi_query.proofs.laws.a_strict_query_has_no_fault.Goals as goal

pub returns : goal.returns
returns c = strict_fine
