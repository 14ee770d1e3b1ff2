use Rattle.std.proofs.Common.{rules}
use Rattle.wi_wire.proofs.entry.is_free.Goals as goal

pub returns-then-label-ge-FIRST_FREE : goal.returns-then-label-ge-FIRST_FREE
returns-then-label-ge-FIRST_FREE c = search rules
