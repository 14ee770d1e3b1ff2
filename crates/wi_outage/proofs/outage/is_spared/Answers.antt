use Rattle.std.proofs.Common.{rules}
use Rattle.wi_outage.proofs.outage.is_spared.Goals as goal

pub returns-then-are_apart : goal.returns-then-are_apart
returns-then-are_apart c = search rules
