use Rattle.std.proofs.Common.{rules}
use Rattle.wi_outage.proofs.sets.counts.Goals as goal

pub returns-then-not-contains-2 : goal.returns-then-not-contains-2
returns-then-not-contains-2 c = search rules
