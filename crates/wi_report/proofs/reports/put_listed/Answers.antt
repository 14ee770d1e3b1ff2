use Rattle.wi_faults.proofs.ShownLemmas.{two_pieces}
use Rattle.wi_report.proofs.reports.put_listed.Goals as goal

pub returns : goal.returns
returns c = let links = rw c.as_slice.ensures at c.in_ok-put_length.ensures in two_pieces _ _ _ _ _ _ links c.put_run.ensures
