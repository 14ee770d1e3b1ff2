use Rattle.std.proofs.Common.{rules}
use Rattle.wi_cert.proofs.closed.is_next_row.Goals as goal

pub returns-in-Some : goal.returns-in-Some
returns-in-Some c = search rules
