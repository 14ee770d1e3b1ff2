use Rattle.std.proofs.Common.{rules}
use Rattle.wi_check.proofs.run.end_of.Goals as goal

pub returns-in-Some-Undefined : goal.returns-in-Some-Undefined
returns-in-Some-Undefined c = search rules
