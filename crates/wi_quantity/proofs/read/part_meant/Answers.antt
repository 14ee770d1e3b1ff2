use Rattle.std.proofs.Common.{rules}
use Rattle.wi_quantity.proofs.read.part_meant.Goals as goal

pub returns : goal.returns
returns c = search rules
