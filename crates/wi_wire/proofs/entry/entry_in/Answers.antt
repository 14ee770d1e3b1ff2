use Rattle.std.proofs.Common.{rules}
use Rattle.wi_wire.proofs.entry.entry_in.Goals as goal

pub returns : goal.returns
returns c = search rules
