use Rattle.wi_world.proofs.Allowed.{allowed_down}
use Rattle.wi_world.proofs.MovingLaws.{moving_possible}
use Rattle.wi_world.proofs.RunLaws.{trace_moving, zero_trace, zero_fits}
use Rattle.wi_world.proofs.laws.without_failures.Goals as goal

pub returns-clause-trace : goal.returns-clause-trace
returns-clause-trace c = λ net b run k z m. zero_trace net b run k.network k.bounds_of z (moving_possible net b run k.network k.bounds_of m)

pub returns-clause-moving : goal.returns-clause-moving
returns-clause-moving c = λ net b run k t. trace_moving net b b.down run k.network k.bounds_of (allowed_down net b k.bounds_of) t

pub returns-clause-fits : goal.returns-clause-fits
returns-clause-fits c = λ net b run k z m. zero_fits net b run k.network k.bounds_of z (moving_possible net b run k.network k.bounds_of m)
