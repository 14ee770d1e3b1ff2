use Rattle.std.proofs.Common.{rules}
use Rattle.wi_script.proofs.Outcomes.{event_means}
use Rattle.wi_script.proofs.read.one_line.Goals as goal

pub returns-in-Ok : goal.returns-in-Ok
returns-in-Ok c = event_means _ _ _ _ c.in-Ok.ensures.cases.0 c.in-Ok.ensures.cases.1 c.read_event.ensures

pub returns-in-Err : goal.returns-in-Err
returns-in-Err c = search rules
