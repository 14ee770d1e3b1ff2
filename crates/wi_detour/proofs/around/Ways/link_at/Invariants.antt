use Rattle.std.proofs.Common.{◌≡◌, drop, slice_get}
use Rattle.std.specs.List.{filter}
use Rattle.wi_detour.specs.private.Around.{is_outside, exits_at, links_on}
use Rattle.wi_detour.proofs.around.Ways.link_at.Given as goal

abbrev pub invariant-loop-link : goal.invariant-loop-link
invariant-loop-link l =
    slice_get (filter (is_outside l.self) (drop l.link-index (exits_at l.self l.fn.id.p))) l.left
    ≡ slice_get (links_on l.self l.fn.id.p) l.fn.id.at
