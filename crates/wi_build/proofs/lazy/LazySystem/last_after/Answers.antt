use Rattle.std.proofs.Common.{rules}
use Rattle.wi_build.proofs.lazy.LazySystem.last_after.Goals as goal

pub returns : goal.returns
returns c = search rules
