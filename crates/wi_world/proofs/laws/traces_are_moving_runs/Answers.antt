use Rattle.wi_world.proofs.RunLaws.{trace_moving}
use Rattle.wi_world.proofs.laws.traces_are_moving_runs.Goals as goal

pub returns : goal.returns
returns c = λ net b fails run k a t. trace_moving net b fails run k.network k.bounds_of a t
