use Rattle.std.proofs.Common.{rules}
use Rattle.wi_base.proofs.memory_shelf.copy_within.Goals as goal

pub returns-in-Ok-clause-short : goal.returns-in-Ok-clause-short
returns-in-Ok-clause-short c = search rules
