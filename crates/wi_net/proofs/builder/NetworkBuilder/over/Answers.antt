use Rattle.wi_net.proofs.OverLemmas.{over_done}
use Rattle.wi_net.proofs.builder.NetworkBuilder.over.Goals as goal

pub invariant_of-result : goal.invariant_of-result
invariant_of-result c = over_done _ _ _ _ _ _ _ _ _ c.network.invariant.network c.in_ok-routers.ensures c.new.ensures c.new-2.ensures.items c.in_ok-interfaces.ensures c.in_ok-links.ensures c.new-3.ensures c.new-4.ensures c.new-5.ensures.items
