use Rattle.wi_saturate.specs.LeastTables.{bound_of}
use Rattle.wi_saturate.specs.Rows.{summaries}
use Rattle.wi_saturate.proofs.BelowLaws.{rows_below}
use Rattle.wi_saturate.proofs.laws.rows_below_a_weight_are_closed.Goals as goal

pub returns : goal.returns
returns g c rules heads goal cut rows best w kept table weight most below =
    rows_below g.W.Domain.scale g.W.Domain.components g.met.W.Domain.laws g.met.W.Domain.admitted rules heads (summaries g.W.Domain.components rows) kept (bound_of best cut) w weight most table.closed below
