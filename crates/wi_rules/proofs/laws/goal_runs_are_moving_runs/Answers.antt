use Rattle.wi_rules.proofs.Matches.{has_goal, has_match}
use Rattle.wi_rules.proofs.laws.goal_runs_are_moving_runs.Goals as goal

pub returns : goal.returns
returns c = record {
  forwards = λ s w run k m. has_goal s k w run m;
  backwards = λ s w k g. has_match s k w g;
}
