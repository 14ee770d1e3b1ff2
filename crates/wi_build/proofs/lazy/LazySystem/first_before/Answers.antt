use Rattle.std.proofs.Common.{rules}
use Rattle.wi_build.proofs.lazy.LazySystem.first_before.Goals as goal

pub returns : goal.returns
returns c = search rules
