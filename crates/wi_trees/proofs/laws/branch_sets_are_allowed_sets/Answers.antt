use Rattle.wi_trees.proofs.BranchLaws.{set_allowed, allowed_set}
use Rattle.wi_trees.proofs.laws.branch_sets_are_allowed_sets.Goals as goal

pub returns : goal.returns
returns c = record { forwards = set_allowed; backwards = allowed_set }
