use Rattle.wi_make.proofs.HexLemmas.{bytes_shown, stack_refused}
use Rattle.wi_make.proofs.hex_text.stack.Goals as goal

pub returns-clause-shown : goal.returns-clause-shown
returns-clause-shown c = bytes_shown c.stack_of-printed.result c.args.text.now c.in_ok-bytes.bytes.items _ c.as_slice.ensures.value c.in_ok-bytes.ensures.read c.stack_of-printed.ensures.shown

pub returns-clause-refused : goal.returns-clause-refused
returns-clause-refused c = stack_refused c.stack_of-printed.result c.args.text.now c.in_ok-bytes.bytes.items _ c.as_slice.ensures.value c.in_ok-bytes.ensures.read c.stack_of-printed.ensures.refused
