use Rattle.wi_faults.proofs.ShownLemmas.{three_pieces}
use Rattle.wi_faults.proofs.refused_decisions.put_overflow.Goals as goal

pub returns : goal.returns
returns c = three_pieces _ _ _ _ _ _ _ _ c.in_ok-put_counted.ensures c.in_ok-put_number.ensures c.put.ensures
