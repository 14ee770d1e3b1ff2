use Rattle.std.proofs.Common.{rules}
use Rattle.wi_build.proofs.lazy.LazySystem.may_build.Goals as goal

pub returns-in-Ip : goal.returns-in-Ip
returns-in-Ip c = search rules
