use Rattle.std.proofs.Common.{rules}
use Rattle.wi_check.proofs.closing.first_lack.Goals as goal

pub returns-clause-follower : goal.returns-clause-follower
returns-clause-follower c = search rules
