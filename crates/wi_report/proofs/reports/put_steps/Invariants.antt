use Rattle.std.proofs.Common.{◌≡◌, ◌++◌, drop, true}
use Rattle.wi_net.specs.Net.{is_link, labels_known}
use Rattle.wi_report.specs.Reports.{steps_shown}
use Rattle.wi_report.proofs.reports.put_steps.Given as goal

abbrev pub invariant-loop-step : goal.invariant-loop-step
invariant-loop-step l = record {
  link : is_link l.net l.at.0 ≡ true;
  header : labels_known l.net l.at.1 ≡ true;
  text : l.text ++ steps_shown l.net l.end l.at (drop l.step-index l.steps) ≡ l.initial.text ++ steps_shown l.net l.end l.initial.at l.steps;
}
