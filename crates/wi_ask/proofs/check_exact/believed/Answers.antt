use Rattle.std.proofs.Common.{rules}
use Rattle.wi_ask.proofs.check_exact.believed.Goals as goal

pub returns-in_ok-accepted_text-in-Ok-clause-believed : goal.returns-in_ok-accepted_text-in-Ok-clause-believed
returns-in_ok-accepted_text-in-Ok-clause-believed c = search rules
