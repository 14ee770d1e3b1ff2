use Rattle.std.proofs.Common.{rules}
use Rattle.wi_build.proofs.lazy.LazySystem.push_accepting.Goals as goal

pub returns-else-first_accepts : goal.returns-else-first_accepts
returns-else-first_accepts c = search rules
