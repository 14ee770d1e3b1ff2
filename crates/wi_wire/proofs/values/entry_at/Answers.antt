use Rattle.std.proofs.Common.{rules}
use Rattle.wi_wire.proofs.values.entry_at.Goals as goal

pub returns-in-Some : goal.returns-in-Some
returns-in-Some c = search rules
