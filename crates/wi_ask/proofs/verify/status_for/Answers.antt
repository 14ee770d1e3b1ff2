use Rattle.std.proofs.Common.{rules}
use Rattle.wi_ask.proofs.verify.status_for.Goals as goal

pub returns-in-Inconclusive : goal.returns-in-Inconclusive
returns-in-Inconclusive c = search rules
