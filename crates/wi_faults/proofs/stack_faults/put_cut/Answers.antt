use Rattle.wi_faults.proofs.ShownLemmas.{two_pieces}
use Rattle.wi_faults.proofs.stack_faults.put_cut.Goals as goal

pub returns : goal.returns
returns c = two_pieces _ _ _ _ _ _ c.in_ok-put_place.ensures c.put.ensures
