use Rattle.wi_trees.proofs.RunsOfBranches.{branch_moving, moving_branch}
use Rattle.wi_trees.proofs.laws.branch_runs_are_moving_runs.Goals as goal

pub returns : goal.returns
returns c = record {
  forwards = λ net whole branch run b r. branch_moving net whole branch b run r;
  backwards = λ net whole branch run b r. moving_branch net whole branch b run r;
}
