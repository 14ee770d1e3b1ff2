use Rattle.std.proofs.Common.{arith}
use Rattle.wi_script.proofs.SetLemmas.{outside_end}
use Rattle.wi_script.proofs.sets.remove_all.Goals as goal

pub returns : goal.returns
returns c = outside_end c.loop-i.set c.args.fewer.now _ c.loop-i.i c.loop-i.invariant (omega (arith, c.loop-i-test.false, c.len-i-end.ensures))
