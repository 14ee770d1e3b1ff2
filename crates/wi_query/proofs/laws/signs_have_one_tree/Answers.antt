use Rattle.wi_query.proofs.Running.{one_tree}
use Rattle.wi_query.proofs.laws.signs_have_one_tree.Goals as goal

pub returns : goal.returns
returns g c = one_tree
