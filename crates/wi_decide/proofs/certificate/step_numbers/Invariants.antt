use Rattle.std.proofs.Common.{◌≡◌, take}
use Rattle.wi_decide.specs.Showing.{step_numbers}
use Rattle.wi_decide.proofs.certificate.step_numbers.Given as goal

abbrev pub invariant-loop-step : goal.invariant-loop-step
invariant-loop-step l = l.pairs.items ≡ step_numbers (take l.step-index l.steps)
