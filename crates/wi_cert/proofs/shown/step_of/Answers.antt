use Rattle.std.proofs.Common.{rules}
use Rattle.wi_cert.proofs.shown.step_of.Goals as goal

pub returns-then-member : goal.returns-then-member
returns-then-member c = search rules
