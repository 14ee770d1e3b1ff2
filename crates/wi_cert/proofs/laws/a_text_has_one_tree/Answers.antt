use Rattle.wi_cert.proofs.TreeCompleteLemmas.{one_tree}
use Rattle.wi_cert.proofs.laws.a_text_has_one_tree.Goals as goal

pub returns : goal.returns
returns c = one_tree
