use Rattle.wi_faults.proofs.ShownLemmas.{three_pieces}
use Rattle.wi_faults.proofs.query_faults.put_down_and_up.Goals as goal

pub returns : goal.returns
returns c = three_pieces _ _ _ _ _ _ _ _ c.in_ok-put.ensures c.in_ok-put_known.ensures c.put-2.ensures
