use Rattle.wi_reduce.proofs.Following.{head_step, pair_step, pop_step, swap_step, all_followed, taken_found, taken_reached, at_some, at_none}
use Rattle.wi_reduce.proofs.reachable.step.Goals as goal

pub follow_head-requires : goal.follow_head-requires
follow_head-requires g c = record {
  found = taken_found _ _ _ c.in-Some.ensures;
  asked = c.requires.asked c.in-Some.p c.in-Some.g (taken_reached _ _ c.args.search.now _ (c.in-Some.p, c.in-Some.g) c.requires.search c.in-Some.ensures);
}

pub returns-in-Some : goal.returns-in-Some
returns-in-Some g c = head_step _ _ _ (c.in-Some.p, c.in-Some.g) _ c.requires.search _ c.in-Some.ensures c.in_ok-follow_head.ensures

pub returns-in-Some-2 : goal.returns-in-Some-2
returns-in-Some-2 g c =
    pair_step _ _ _ (c.in-Some-2.g, c.in-Some-2.x) _ c.requires.search _ _ c.in_default.ensures.0 (at_some _ _ c.in_ok-g.ensures c.in-Some-2.is) c.in_ok-follow_pair.ensures

pub returns-in-Some-3 : goal.returns-in-Some-3
returns-in-Some-3 g c =
    pop_step _ _ _ (c.in-Some-3.g, c.in-Some-3.to) _ c.requires.search _ _ _ c.in_default.ensures.0 (at_none _ _ c.in_ok-g.ensures c.in_default-2.is).0 (at_some _ _ c.in_ok-g-2.ensures c.in-Some-3.is) c.in_ok-follow_pop.ensures

pub returns-in-Some-4 : goal.returns-in-Some-4
returns-in-Some-4 g c =
    swap_step _ _ _ (c.in-Some-4.g, c.in-Some-4.v) _ c.requires.search _ _ _ _ c.in_default.ensures.0 (at_none _ _ c.in_ok-g.ensures c.in_default-2.is).0 (at_none _ _ c.in_ok-g-2.ensures c.in_default-3.is).0
    (at_some _ _ c.in_ok-g-3.ensures c.in-Some-4.is) c.in_ok-follow_swap.ensures

pub returns : goal.returns
returns g c = all_followed _ _ c.args.search.now c.requires.search c.in_default.ensures (at_none _ _ c.in_ok-g.ensures c.in_default-2.is) (at_none _ _ c.in_ok-g-2.ensures c.in_default-3.is) (at_none _ _ c.in_ok-g-3.ensures c.in_default-4.is)
