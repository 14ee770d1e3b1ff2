use Rattle.wi_world.proofs.MovingLaws.{moving_possible}
use Rattle.wi_world.proofs.RunLaws.{fits_trace}
use Rattle.wi_world.proofs.laws.fitting_runs_are_traces.Goals as goal

pub returns-clause-trace : goal.returns-clause-trace
returns-clause-trace c = λ net b fails run k m v. (fits_trace net b run fails k.network k.bounds_of (moving_possible net b run k.network k.bounds_of m) v).0

pub returns-clause-allowed : goal.returns-clause-allowed
returns-clause-allowed c = λ net b fails run k m v. (fits_trace net b run fails k.network k.bounds_of (moving_possible net b run k.network k.bounds_of m) v).1
