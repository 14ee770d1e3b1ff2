use Rattle.wi_faults.proofs.ShownLemmas.{two_pieces}
use Rattle.wi_faults.proofs.query_faults.too_many.Goals as goal

pub returns : goal.returns
returns c = two_pieces _ _ _ _ _ _ c.in_ok-put_counted.ensures c.put_counted-2.ensures
