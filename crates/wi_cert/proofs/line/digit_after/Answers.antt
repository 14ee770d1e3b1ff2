use Rattle.std.proofs.Common.{rules}
use Rattle.wi_cert.proofs.line.digit_after.Goals as goal

pub returns-then-next : goal.returns-then-next
returns-then-next c = search rules
