use Rattle.std.proofs.Common.{rules}
use Rattle.wi_quantity.proofs.read.unknown.Goals as goal

pub returns-in-Ok : goal.returns-in-Ok
returns-in-Ok c = search rules
