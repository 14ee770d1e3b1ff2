use Rattle.std.proofs.Common.{rules}
use Rattle.wi_decide.proofs.certificate.is_below.Goals as goal

pub returns-in-Some : goal.returns-in-Some
returns-in-Some c = search rules
