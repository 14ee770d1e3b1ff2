use Rattle.std.proofs.Common.{rules}
use Rattle.wi_quantity.proofs.read.many_among.Goals as goal

pub loop-term-preserved : goal.loop-term-preserved
loop-term-preserved c = search rules
