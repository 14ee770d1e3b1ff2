-- No link leaves or reaches a router by this interface before.
use Rattle.wi_gen.proofs.links.add_backward_link.Goals as goal
use Rattle.wi_gen.proofs.LinkLemmas.{is_given, left_is, backward_allowed}

pub put_link-requires : goal.put_link-requires
put_link-requires c =
    is_given _ _
    (backward_allowed _ c.args.ring.now c.args.i _ _ _ _ _ _ _ c.keeps.ensures c.requires.within c.requires.before c.further.ensures
    c.in_ok-from.ensures c.in_ok-to.ensures c.as_str.ensures.value c.as_str-2.ensures.value c.backward.ensures c.distance-distance.ensures)

pub returns : goal.returns
returns c =
    left_is _ _ _ _ c.put_link.ensures
    (backward_allowed _ c.args.ring.now c.args.i _ _ _ _ _ _ _ c.keeps.ensures c.requires.within c.requires.before c.further.ensures
    c.in_ok-from.ensures c.in_ok-to.ensures c.as_str.ensures.value c.as_str-2.ensures.value c.backward.ensures c.distance-distance.ensures)
