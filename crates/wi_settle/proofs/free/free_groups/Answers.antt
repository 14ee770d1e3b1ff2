use Rattle.std.proofs.Common.{◌<◌, length, arith}
use Rattle.wi_net.specs.Net.{all_links}
use Rattle.wi_outage.proofs.Counting.{count_one, count_none}
use Rattle.wi_branch.proofs.ToleranceLaws.{link_at}
use Rattle.wi_settle.proofs.SetLaws.{counted_all}
use Rattle.wi_settle.proofs.free.free_groups.Goals as goal
use Rattle.wi_settle.proofs.free.free_groups.Goals.{then-is_free, else-is_free}

pub loop-e-preserved : goal.loop-e-preserved
loop-e-preserved c =
    let less : c.loop-e.e < length c.args.net.now.links = omega (arith, c.loop-e-test.true, c.counts-e-end.ensures.links) in
    elim c.if-is_free.branch [
      | then-is_free w ↦ record {
        counted = count_one c.args.net.now c.args.bounds.now.up c.args.bounds.now.down (all_links c.args.net.now) c.loop-e.e _ c.loop-e.count _ _ _ (link_at c.args.net.now c.loop-e.e less) c.loop-e.invariant.counted c.is_free.ensures w.if-is_free.true w.count-is;
        few = omega arith;
      }
      | else-is_free w ↦ record {
        counted = count_none c.args.net.now c.args.bounds.now.up c.args.bounds.now.down (all_links c.args.net.now) c.loop-e.e _ c.loop-e.count _ _ _ (link_at c.args.net.now c.loop-e.e less) c.loop-e.invariant.counted c.is_free.ensures w.if-is_free.false w.count-is;
        few = omega arith;
      }
    ]

pub returns : goal.returns
returns c = counted_all c.args.net.now c.args.bounds.now c.loop-e.e c.loop-e.count (omega (arith, c.loop-e-test.false, c.counts-e-end.ensures.links)) c.loop-e.invariant.counted
