-- The bounds of a ring's numbers, and distances.
use Rattle.std.specs.Prelude.{ℕ, ◌+◌, ◌*◌, ◌%◌, ◌<◌, ◌≤◌}
use Rattle.wi_net.specs.declared.parts.LinkId.{LinkId}
use Rattle.wi_gen.specs.Ring.{Ring}

-- what keeps a ring within a network's limits
pub record IsRing (ring : Ring) : Type 0 where
  pub few : ring.size ≤ 2000
  pub short : ring.path ≤ 63
  pub within : ring.path < ring.size
  pub some : 2 ≤ ring.path

-- a link's distance
abbrev pub distance_of : Ring → LinkId → ℕ
distance_of ring e = 1 + (ring.seed % 97 + 31 * e.0) % 97
