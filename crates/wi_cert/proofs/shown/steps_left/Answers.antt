use Rattle.std.proofs.Common.{rules}
use Rattle.wi_cert.proofs.shown.steps_left.Goals as goal

pub returns-in-Some : goal.returns-in-Some
returns-in-Some c = search rules
