use Rattle.wi_report.specs.Stacks.{part_shown}
use Rattle.wi_faults.proofs.ShownLemmas.{two_pieces}
use Rattle.wi_report.proofs.stacks.put_part.Goals as goal

pub returns : goal.returns
unfolding part_shown
returns c = two_pieces _ _ _ _ _ _ c.in_ok-put.ensures (rw c.from.ensures at c.put_number.ensures)
