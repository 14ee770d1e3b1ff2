use Rattle.std.proofs.Common.{rules}
use Rattle.wi_check.proofs.rows.is_within.Goals as goal

pub returns-in-Some : goal.returns-in-Some
returns-in-Some c = search rules
