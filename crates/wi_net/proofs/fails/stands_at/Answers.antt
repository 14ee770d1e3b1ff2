use Rattle.std.proofs.Common.{◌≡◌, length, slice_get, Some, None, refl}
use Rattle.std.proofs.lemmas.Option.{slice_get_read, slice_get_past}
use Rattle.wi_net.proofs.RisingLemmas.{has_at_place}
use Rattle.wi_net.proofs.fails.stands_at.Goals as goal

pub returns-in-Some : goal.returns-in-Some
returns-in-Some c =
    let h = c.in-Some.ensures.lookup in
    let there : slice_get c.args.links.now c.args.at ≡ Some c.in-Some.x.now = slice_get_read c.args.links.now (length c.args.links.now) c.args.at c.in-Some.x.now refl h.3.0 h.1 in
    rw (has_at_place c.args.links.now c.args.link c.requires.rising, ← c.requires.place, there) refl

pub returns-in-None : goal.returns-in-None
returns-in-None c =
    let there : slice_get c.args.links.now c.args.at ≡ None = slice_get_past c.args.links.now c.args.at (c.in-None.ensures.lookup).3 in
    rw (has_at_place c.args.links.now c.args.link c.requires.rising, ← c.requires.place, there) refl
