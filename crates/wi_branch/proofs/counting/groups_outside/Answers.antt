use Rattle.std.proofs.Common.{◌<◌, length, arith}
use Rattle.wi_net.specs.Net.{all_links}
use Rattle.wi_trace.proofs.SetLemmas.{count_one, count_none}
use Rattle.wi_branch.proofs.ToleranceLaws.{counted_all, link_at}
use Rattle.wi_branch.proofs.counting.groups_outside.Goals as goal
use Rattle.wi_branch.proofs.counting.groups_outside.Goals.{then-is_group_outside, else-is_group_outside}

pub loop-e-preserved : goal.loop-e-preserved
loop-e-preserved c =
    let less : c.loop-e.e < length c.args.net.now.links = omega (arith, c.loop-e-test.true, c.counts-e-end.ensures.links) in
    elim c.if-is_group_outside.branch [
      | then-is_group_outside w ↦ record {
        counted = count_one c.args.net.now c.args.known.now (all_links c.args.net.now) c.loop-e.e _ c.loop-e.count _ _ _ (link_at c.args.net.now c.loop-e.e less) c.loop-e.invariant.counted c.is_group_outside.ensures w.if-is_group_outside.true w.count-is;
        few = omega arith;
      }
      | else-is_group_outside w ↦ record {
        counted = count_none c.args.net.now c.args.known.now (all_links c.args.net.now) c.loop-e.e _ c.loop-e.count _ _ _ (link_at c.args.net.now c.loop-e.e less) c.loop-e.invariant.counted c.is_group_outside.ensures w.if-is_group_outside.false w.count-is;
        few = omega arith;
      }
    ]

pub returns : goal.returns
returns c = counted_all c.args.net.now c.args.known.now c.loop-e.count c.loop-e.e (omega (arith, c.loop-e-test.false, c.counts-e-end.ensures.links)) c.loop-e.invariant.counted
