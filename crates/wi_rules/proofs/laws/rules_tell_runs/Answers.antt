use Rattle.wi_rules.proofs.Matches.{goal_of_match, match_of_goal}
use Rattle.wi_rules.proofs.laws.rules_tell_runs.Goals as goal

pub returns : goal.returns
returns c = record {
  of_rules = λ s rs k g. match_of_goal s k rs g;
  of_run = λ s w run k m. goal_of_match s k w run m;
}
