use Rattle.std.proofs.Common.{◌≡◌, ◌++◌, drop}
use Rattle.wi_report.specs.States.{states_shown}
use Rattle.wi_report.proofs.state_lines.states.Given as goal

abbrev pub invariant-loop-state : goal.invariant-loop-state
invariant-loop-state l = l.text ++ states_shown l.net (drop l.state-index l.states) ≡ states_shown l.net l.states
