use Rattle.wi_pds.proofs.Bound.{bounds}
use Rattle.wi_pds.proofs.laws.rows_bound_runs.Goals as goal

pub returns : goal.returns
returns g c rules start heads pairs rows bound closed closed_rows =
    bounds g.W.Domain.scale g.W.Domain.components g.met.W.Domain.laws g.met.W.Domain.admitted rules start heads pairs rows bound closed closed_rows
