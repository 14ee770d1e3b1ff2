use Rattle.wi_net.proofs.OverLemmas.{name_next, made_next}
use Rattle.wi_net.proofs.names.Names.add_all.Goals as goal

pub add-requires : goal.add-requires
add-requires c = name_next _ _ _ _ c.requires.names c.loop-i.invariant c.get.ensures

pub loop-i-preserved : goal.loop-i-preserved
loop-i-preserved c = made_next _ _ _ _ _ c.loop-i.invariant c.get.ensures c.in_ok-add.ensures.ok
