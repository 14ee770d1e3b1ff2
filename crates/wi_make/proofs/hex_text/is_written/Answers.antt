use Rattle.std.proofs.Common.{rules}
use Rattle.wi_make.proofs.hex_text.is_written.Goals as goal

pub returns : goal.returns
returns c = search rules
