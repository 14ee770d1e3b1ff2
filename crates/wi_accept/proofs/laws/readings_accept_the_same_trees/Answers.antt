use Rattle.wi_accept.proofs.OneReading.{accept_trees_the_same}
use Rattle.wi_accept.proofs.laws.readings_accept_the_same_trees.Goals as goal

pub returns : goal.returns
returns c = accept_trees_the_same
