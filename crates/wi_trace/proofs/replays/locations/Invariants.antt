use Rattle.std.proofs.Common.{◌≡◌, ◌++◌, drop}
use Rattle.wi_world.specs.Runs.{locations}
use Rattle.wi_trace.proofs.replays.locations.Given as goal

abbrev pub invariant-loop-step : goal.invariant-loop-step
invariant-loop-step l = l.trace.items ++ locations l.net l.at (drop l.step-index l.steps) ≡ locations l.net l.initial.at l.steps
