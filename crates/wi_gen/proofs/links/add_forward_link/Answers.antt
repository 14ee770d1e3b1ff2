-- No link leaves or reaches a router by this interface before.
use Rattle.wi_gen.proofs.links.add_forward_link.Goals as goal
use Rattle.wi_gen.proofs.LinkLemmas.{is_given, left_is, forward_allowed}

pub put_link-requires : goal.put_link-requires
put_link-requires c =
    is_given _ _
    (forward_allowed _ c.args.ring.now c.args.i _ _ _ _ _ _ _ c.keeps.ensures c.requires.within c.requires.before c.in_ok-from.ensures
    c.further.ensures c.in_ok-to.ensures c.as_str.ensures.value c.as_str-2.ensures.value c.forward.ensures c.distance-distance.ensures)

pub returns : goal.returns
returns c =
    left_is _ _ _ _ c.put_link.ensures
    (forward_allowed _ c.args.ring.now c.args.i _ _ _ _ _ _ _ c.keeps.ensures c.requires.within c.requires.before c.in_ok-from.ensures
    c.further.ensures c.in_ok-to.ensures c.as_str.ensures.value c.as_str-2.ensures.value c.forward.ensures c.distance-distance.ensures)
