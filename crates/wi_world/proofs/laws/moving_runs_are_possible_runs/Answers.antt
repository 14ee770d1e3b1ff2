use Rattle.wi_world.proofs.MovingLaws.{moving_possible, possible_moving}
use Rattle.wi_world.proofs.laws.moving_runs_are_possible_runs.Goals as goal

pub returns-clause-forwards : goal.returns-clause-forwards
returns-clause-forwards c = λ net b run k m. moving_possible net b run k.network k.bounds_of m

pub returns-clause-backwards : goal.returns-clause-backwards
returns-clause-backwards c = λ net b run k p. possible_moving net b run k.network k.bounds_of p
