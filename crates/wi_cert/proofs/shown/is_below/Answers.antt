use Rattle.std.proofs.Common.{rules}
use Rattle.wi_cert.proofs.shown.is_below.Goals as goal

pub returns-in-Equal : goal.returns-in-Equal
returns-in-Equal c = search rules
