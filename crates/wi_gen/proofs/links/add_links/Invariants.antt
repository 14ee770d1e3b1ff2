-- The first links are there.
use Rattle.std.proofs.Common.{◌≡◌}
use Rattle.wi_gen.specs.private.Making.{forward_links, backward_links}
use Rattle.wi_gen.proofs.links.add_links.Given as goal

abbrev pub invariant-loop-i : goal.invariant-loop-i
invariant-loop-i l = l.builder ≡ forward_links l.ring l.i

abbrev pub invariant-loop-i-2 : goal.invariant-loop-i-2
invariant-loop-i-2 l = l.builder ≡ backward_links l.ring l.i
