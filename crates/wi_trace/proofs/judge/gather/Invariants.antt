use Rattle.std.proofs.Common.{◌≡◌, drop}
use Rattle.wi_trace.specs.private.Hops.{gathered}
use Rattle.wi_trace.proofs.judge.gather.Given as goal

abbrev pub invariant-loop-step : goal.invariant-loop-step
invariant-loop-step l = gathered l.net l.all l.end l.at (drop l.step-index l.steps) ≡ gathered l.net l.initial.all l.end l.initial.at l.steps
