use Rattle.wi_make.proofs.HexLemmas.{rest_shown}
use Rattle.wi_make.proofs.hex_text.stack_of.Goals as goal

pub returns-in-Err-clause-refused : goal.returns-in-Err-clause-refused
returns-in-Err-clause-refused c = c.refusal_for.ensures c.args.bytes.now c.in-Err.ensures.refused

pub returns-in_ok-text-in-Ok-clause-shown : goal.returns-in_ok-text-in-Ok-clause-shown
returns-in_ok-text-in-Ok-clause-shown c = rest_shown _ _ _ _ c.in-Ok.ensures.read (rw c.as_slice.ensures.value at c.in_ok-text-in-Ok.ensures)
