use Rattle.std.proofs.Common.{◌≡◌, ◌≤◌, ◌+◌, ◌*◌, ◌^◌, drop}
use Rattle.wi_weight.specs.Weights.{plus, EachBelow}
use Rattle.wi_quantity.specs.Weighing.{components, steps_weight}
use Rattle.wi_world.specs.Runs.{sum_over, work, end_work}
use Rattle.wi_check.proofs.weighed.weighed_after.Given as goal

abbrev pub invariant-loop-step : goal.invariant-loop-step
invariant-loop-step l = record {
  weight : plus (components l.weight) (steps_weight l.net l.vector l.end l.at (drop l.step-index l.steps)) ≡ plus (components l.fn.first) (steps_weight l.net l.vector l.end l.initial.at l.steps);
  small : EachBelow ((l.step-index + 1) * 2 ^ 64) (components l.weight);
  work : l.work + sum_over l.net (work l.net) (end_work l.net l.end) l.at (drop l.step-index l.steps) ≡ sum_over l.net (work l.net) (end_work l.net l.end) l.initial.at l.steps;
  few : l.work ≤ 8 * l.step-index;
}
