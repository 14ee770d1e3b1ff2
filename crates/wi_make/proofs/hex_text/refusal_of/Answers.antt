use Rattle.wi_make.proofs.HexLemmas.{not_decoded}
use Rattle.wi_make.proofs.hex_text.refusal_of.Goals as goal

pub returns-in_default : goal.returns-in_default
returns-in_default c = λ text said. not_decoded text c.args.error c.in_default.not-OutOfMemory said
