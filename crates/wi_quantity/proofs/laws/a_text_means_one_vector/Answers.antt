use Rattle.wi_quantity.proofs.OneVector.{one_vector}
use Rattle.wi_quantity.proofs.laws.a_text_means_one_vector.Goals as goal

pub returns : goal.returns
returns c = one_vector
