-- What one answer says of other outages: the bounds while more is known to be down or up, and which runs go on then.
use Rattle.std.specs.Prelude.{ℕ, Bool, ◌&&◌, nat_le, List}
use Rattle.wi_net.specs.declared.parts.LinkId.{LinkId}
use Rattle.wi_net.specs.declared.bounds.Bounds.{Bounds}
use Rattle.wi_net.specs.LinkSet.{is_apart, outside}
use Rattle.wi_net.specs.RiskGroups.{union}
use Rattle.wi_net.specs.Net.{Net, risk_count}

-- the bounds, with these links known to be down besides
abbrev pub with_down : Bounds → List LinkId → Bounds
with_down bounds links = record bounds { down = union bounds.down links }

-- the bounds, with these links known to be up besides
abbrev pub with_up : Bounds → List LinkId → Bounds
with_up bounds links = record bounds { up = union bounds.up links }

-- the bounds, with so many risk groups that may fail
abbrev pub with_k : Bounds → ℕ → Bounds
with_k bounds k = record bounds { k = k }

-- a run that uses some links, while others have failed, goes on while the links of an outage are down, too: none of these is known to
-- be up, it uses none of them, and at most k risk groups have failed besides them and those known to be down
abbrev pub is_survived : Net → Bounds → List LinkId → List LinkId → List LinkId → Bool
is_survived net bounds fails used links =
    is_apart links bounds.up && (is_apart links used && nat_le (risk_count net (outside (outside fails bounds.down) links)) bounds.k)
