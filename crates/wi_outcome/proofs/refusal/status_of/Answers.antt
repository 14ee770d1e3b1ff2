use Rattle.std.proofs.Common.{rules}
use Rattle.wi_outcome.proofs.refusal.status_of.Goals as goal

pub returns-in-Query : goal.returns-in-Query
returns-in-Query c = search rules
