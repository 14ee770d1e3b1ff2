use Rattle.std.proofs.Common.{sym}
use Rattle.wi_faults.proofs.ShownLemmas.{link_at, sources_left}
use Rattle.wi_faults.proofs.shown.put_sources.Goals as goal

pub put_source-requires : goal.put_source-requires
put_source-requires c = link_at c.args.net.now c.args.links.now c.loop-i.i c.nth.result c.requires (sym c.nth.ensures)

pub loop-i-preserved : goal.loop-i-preserved
loop-i-preserved c = sources_left c.args.net.now c.args.links.now c.loop-i.i _ _ _ _ _ c.nth.ensures c.loop-i.invariant c.in_ok-put_source.ensures c.in_ok-put.ensures
