use Rattle.wi_make.proofs.HexLemmas.{written_otherwise, written_so}
use Rattle.wi_make.proofs.hex_text.bytes_if_written.Goals as goal

pub returns-then-same-clause-read : goal.returns-then-same-clause-read
returns-then-same-clause-read c = written_so c.args.text.now c.args.bytes.items _ c.requires (rw c.as_slice.ensures.value at c.in_ok-same.ensures) c.if-same.true

pub returns-clause-refused : goal.returns-clause-refused
returns-clause-refused c = written_otherwise c.args.text.now c.args.bytes.items _ c.requires (rw c.as_slice.ensures.value at c.in_ok-same.ensures) c.if-same.false
