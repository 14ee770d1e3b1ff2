use Rattle.std.proofs.Common.{arith}
use Rattle.wi_outage.proofs.Counting.{count_one, count_none}
use Rattle.wi_outage.proofs.sets.count_besides.Goals as goal
use Rattle.wi_outage.proofs.sets.count_besides.Goals.{then-counts, else-counts}

pub loop-i-preserved : goal.loop-i-preserved
loop-i-preserved c =
    elim c.if-counts.branch [
      | then-counts w ↦ record {
        counted = count_one c.args.net.now c.args.one.now c.args.other.now c.args.set.now c.loop-i.i c.nth.result c.loop-i.count _ _ _ c.nth.ensures c.loop-i.invariant.counted c.counts.ensures w.if-counts.true w.count-is;
        few = omega arith;
      }
      | else-counts w ↦ record {
        counted = count_none c.args.net.now c.args.one.now c.args.other.now c.args.set.now c.loop-i.i c.nth.result c.loop-i.count _ _ _ c.nth.ensures c.loop-i.invariant.counted c.counts.ensures w.if-counts.false w.count-is;
        few = omega arith;
      }
    ]
