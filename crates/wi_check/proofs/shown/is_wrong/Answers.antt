use Rattle.std.proofs.Common.{rules}
use Rattle.wi_check.proofs.shown.is_wrong.Goals as goal

pub returns-in-Yes-default : goal.returns-in-Yes-default
returns-in-Yes-default c = search rules
