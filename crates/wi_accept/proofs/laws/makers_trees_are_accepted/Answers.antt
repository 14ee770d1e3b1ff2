use Rattle.wi_accept.proofs.MadeTrees.{nothing_against_tree}
use Rattle.wi_accept.proofs.laws.makers_trees_are_accepted.Goals as goal

pub returns : goal.returns
returns c = nothing_against_tree
