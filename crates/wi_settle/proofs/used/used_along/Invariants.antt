use Rattle.std.proofs.Common.{◌≡◌, ◌++◌, drop}
use Rattle.wi_world.specs.Runs.{used_along}
use Rattle.wi_settle.proofs.used.used_along.Given as goal

abbrev pub invariant-loop-step : goal.invariant-loop-step
invariant-loop-step l = l.used.items ++ used_along l.net l.end l.at (drop l.step-index l.steps) ≡ used_along l.net l.end l.initial.at l.steps
