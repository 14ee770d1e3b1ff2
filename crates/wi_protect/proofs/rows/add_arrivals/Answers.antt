use Rattle.std.proofs.Common.{rules}
use Rattle.wi_protect.proofs.rows.add_arrivals.Goals as goal

pub returns-in-Some : goal.returns-in-Some
returns-in-Some c = search rules
