use Rattle.std.proofs.Common.{sym}
use Rattle.wi_faults.proofs.ShownLemmas.{link_at, links_left}
use Rattle.wi_faults.proofs.shown.put_more.Goals as goal

pub put_link-requires : goal.put_link-requires
put_link-requires c = link_at c.args.net.now c.args.links.now c.loop-i.i c.in-Some.link c.requires c.in-Some.ensures.value

pub loop-i-preserved : goal.loop-i-preserved
loop-i-preserved c = links_left c.args.net.now c.args.links.now c.loop-i.i _ _ _ _ _ (sym c.in-Some.ensures.value) c.loop-i.invariant c.in_ok-put.ensures c.in_ok-put_link.ensures
