-- The first routers of the ring are there.
use Rattle.std.proofs.Common.{◌≡◌, map, ◌∷◌}
use Rattle.std.specs.Prelude.{codes}
use Rattle.std.specs.List.{range_with_len}
use Rattle.wi_gen.specs.Ring.{numbered}
use Rattle.wi_gen.specs.private.Making.{with_routers}
use Rattle.wi_gen.proofs.names.add_routers.Given as goal

abbrev pub invariant-loop-i : goal.invariant-loop-i
invariant-loop-i l = l.builder ≡ with_routers (codes "s" ∷ codes "t" ∷ map (numbered (codes "r")) (range_with_len 0 l.i))
