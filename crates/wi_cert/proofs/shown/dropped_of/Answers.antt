use Rattle.std.proofs.Common.{rules}
use Rattle.wi_cert.proofs.shown.dropped_of.Goals as goal

pub returns-then-is_line-2 : goal.returns-then-is_line-2
returns-then-is_line-2 c = search rules
