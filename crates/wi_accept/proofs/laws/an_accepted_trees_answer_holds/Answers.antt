use Rattle.wi_accept.proofs.AcceptedTrees.{tree_answer_holds}
use Rattle.wi_accept.proofs.laws.an_accepted_trees_answer_holds.Goals as goal

pub returns : goal.returns
returns c = tree_answer_holds
