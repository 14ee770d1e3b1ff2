use Rattle.std.proofs.Common.{arith}
use Rattle.wi_outage.proofs.Adding.{router_next, routers_done}
use Rattle.wi_outage.proofs.Gathering.{routers_listed, links_listed}
use Rattle.wi_outage.proofs.routers.add_routers.Goals as goal

pub bounds-index-r : goal.bounds-index-r
bounds-index-r c = routers_listed c.args.net.now c.args.index.now c.loop-r.r c.requires (omega (arith, c.loop-r-test.true, c.counts-r-end.ensures.routers))

pub add_router-requires : goal.add_router-requires
add_router-requires c = links_listed c.args.net.now c.args.index.now c.loop-r.r _ c.requires (omega (arith, c.loop-r-test.true, c.counts-r-end.ensures.routers)) c.index-index-r.is

pub loop-r-preserved : goal.loop-r-preserved
loop-r-preserved c = router_next c.args.net.now c.args.given.now c.loop-r.r _ _ _ c.loop-r.invariant c.in_ok-add_router.ensures

pub returns : goal.returns
returns c = routers_done c.args.net.now c.args.given.now c.loop-r.r _ _ (omega (arith, c.loop-r-test.false, c.counts-r-end.ensures.routers)) c.loop-r.invariant
