use Rattle.std.proofs.Common.{◌≡◌, drop}
use Rattle.wi_trace.specs.private.Hops.{used_in}
use Rattle.wi_trace.proofs.judge.first_used.Given as goal

abbrev pub invariant-loop-step : goal.invariant-loop-step
invariant-loop-step l = used_in l.net l.set l.end l.at (drop l.step-index l.steps) ≡ used_in l.net l.set l.end l.initial.at l.steps
