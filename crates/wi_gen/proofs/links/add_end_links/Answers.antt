-- There is nothing before the first link, and the second has another interface.
use Rattle.wi_gen.proofs.links.add_end_links.Goals as goal
use Rattle.wi_gen.proofs.LinkLemmas.{is_given, left_is, entry_allowed, entry_added, exit_allowed}

pub put_link-requires : goal.put_link-requires
put_link-requires c = is_given _ _ (entry_allowed _ c.args.ring.now _ c.keeps.ensures c.requires c.distance.ensures)

pub put_link-requires-2 : goal.put_link-requires-2
put_link-requires-2 c =
    is_given _ _
    (exit_allowed _ c.args.ring.now _ _ _ _ c.keeps.ensures
    (entry_added _ _ c.args.ring.now _ c.keeps.ensures c.requires c.distance.ensures c.in_ok-put_link.ensures)
    c.path.ensures c.in_ok-last.ensures c.as_str.ensures.value c.distance-2.ensures)

pub returns : goal.returns
returns c =
    left_is _ _ _ _ c.put_link-2.ensures
    (exit_allowed _ c.args.ring.now _ _ _ _ c.keeps.ensures
    (entry_added _ _ c.args.ring.now _ c.keeps.ensures c.requires c.distance.ensures c.in_ok-put_link.ensures)
    c.path.ensures c.in_ok-last.ensures c.as_str.ensures.value c.distance-2.ensures)
