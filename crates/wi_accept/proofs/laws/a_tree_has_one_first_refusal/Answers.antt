use Rattle.wi_accept.proofs.FirstRefusals.{one_tree_refusal}
use Rattle.wi_accept.proofs.laws.a_tree_has_one_first_refusal.Goals as goal

pub returns : goal.returns
returns c = one_tree_refusal
