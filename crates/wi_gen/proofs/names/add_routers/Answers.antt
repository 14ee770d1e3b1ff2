-- No name of a router is there before.
use Rattle.std.proofs.Common.{arith}
use Rattle.wi_gen.proofs.names.add_routers.Goals as goal
use Rattle.wi_gen.proofs.RouterLemmas.{s_allowed, t_allowed, r_allowed, r_added}

pub put_router-requires : goal.put_router-requires
put_router-requires c = s_allowed _ c.requires

pub put_router-requires-2 : goal.put_router-requires-2
put_router-requires-2 c = t_allowed _ _ c.requires c.in_ok-put_router.ensures

pub put_router-requires-in-loop-i : goal.put_router-requires-in-loop-i
put_router-requires-in-loop-i c =
    r_allowed _ c.loop-i.i _ _ (omega (arith, c.keeps.ensures.few, c.size-i-end.ensures)) c.loop-i.invariant c.in_ok-name.ensures
    c.as_str.ensures.value

pub loop-i-preserved : goal.loop-i-preserved
loop-i-preserved c = r_added _ _ c.loop-i.i _ _ c.loop-i.invariant c.in_ok-name.ensures c.as_str.ensures.value c.in_ok-put_router-3.ensures
