use Rattle.wi_syntax.proofs.Texts.{one_way}
use Rattle.wi_syntax.proofs.laws.a_text_is_read_one_way.Goals as goal

pub returns : goal.returns
returns c = one_way
