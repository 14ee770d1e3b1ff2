use Rattle.wi_quantity.proofs.Fine.{text_fine}
use Rattle.wi_quantity.proofs.laws.a_text_with_a_meaning_has_no_fault.Goals as goal

pub returns : goal.returns
returns c = text_fine
