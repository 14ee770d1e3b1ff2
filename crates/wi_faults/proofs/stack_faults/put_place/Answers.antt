use Rattle.wi_faults.specs.StackFaults.{place_of}
use Rattle.wi_faults.proofs.ShownLemmas.{two_pieces}
use Rattle.wi_faults.proofs.stack_faults.put_place.Goals as goal

pub returns : goal.returns
unfolding place_of
returns c = two_pieces _ _ _ _ _ _ c.in_ok-put.ensures c.put_number.ensures
