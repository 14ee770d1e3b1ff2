use Rattle.std.proofs.Common.{rules}
use Rattle.wi_build.proofs.needs.Needs.may_be_down.Goals as goal

pub returns-else-len-bounds : goal.returns-else-len-bounds
returns-else-len-bounds c = search rules
