use Rattle.wi_quantity.proofs.Readings.{one_way}
use Rattle.wi_quantity.proofs.laws.a_text_is_read_one_way.Goals as goal

pub returns : goal.returns
returns c = one_way
