use Rattle.std.proofs.Common.{rules}
use Rattle.wi_ask.proofs.ring.summary_if_accepted.Goals as goal

pub returns-clause-believed : goal.returns-clause-believed
returns-clause-believed c = search rules
