use Rattle.std.proofs.Common.{rules}
use Rattle.wi_quantity.proofs.share.growth.Goals as goal

pub returns : goal.returns
returns c = search rules
