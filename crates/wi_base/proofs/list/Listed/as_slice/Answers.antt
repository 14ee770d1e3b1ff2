use Rattle.std.proofs.Common.{rules}
use Rattle.wi_base.proofs.list.Listed.as_slice.Goals as goal

pub returns : goal.returns
returns g c = search rules
