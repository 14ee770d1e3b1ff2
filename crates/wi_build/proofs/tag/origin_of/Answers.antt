use Rattle.std.proofs.Common.{rules}
use Rattle.wi_build.proofs.tag.origin_of.Goals as goal

pub returns-in-4 : goal.returns-in-4
returns-in-4 c = search rules
