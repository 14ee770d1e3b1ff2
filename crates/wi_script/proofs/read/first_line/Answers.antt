use Rattle.wi_script.proofs.Outcomes.{start_means}
use Rattle.wi_script.proofs.read.first_line.Goals as goal

pub returns-in-Ok : goal.returns-in-Ok
returns-in-Ok c = start_means _ _ _ _ c.in-Ok.ensures.cases.0 c.in-Ok.ensures.cases.1 c.read_start.ensures
