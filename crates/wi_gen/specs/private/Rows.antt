-- The rows of a ring one by one, and what is left of them at each place.
use Rattle.std.specs.Prelude.{ℕ, ◌+◌, ◌-◌, ◌==◌, if◌then◌else◌, List, [], ◌∷◌, ◌++◌, map}
use Rattle.std.specs.List.{flat_map, range_with_len}
use Rattle.wi_labels.specs.declared.ops.Op.{Op}
use Rattle.wi_labels.specs.declared.ops.Op.TheVariants.{Pop}
use Rattle.wi_net.specs.declared.parts.LinkId.{LinkId}
use Rattle.wi_net.specs.declared.parts.Member.{Member}
use Rattle.wi_net.specs.declared.parts.TableRow.{TableRow}
use Rattle.wi_gen.specs.Ring.{Ring, bypass, along, exit, forward, backward, back, push, swap, way, row, middle_rows, last_rows, bypass_row, bypass_rows}

-- what the rows of each kind say
abbrev pub first_groups : Ring → List (List Member)
first_groups ring = way (forward ring 0) (push (along ring 1) ∷ []) ∷ way (backward ring (ring.size - 1)) (push (along ring 1) ∷ push (bypass ring 0) ∷ []) ∷ []

abbrev pub middle_groups : Ring → ℕ → List (List Member)
middle_groups ring i =
    way (forward ring i) (swap (along ring (i + 1)) ∷ []) ∷ way (backward ring (i - 1)) (swap (along ring (i + 1)) ∷ push (bypass ring i) ∷ []) ∷ []

abbrev pub last_groups : List (List Member)
last_groups = way exit (Pop ∷ []) ∷ []

abbrev pub bypass_op : Ring → ℕ → ℕ → Op
bypass_op ring i d = if d == ring.size - 2 then Pop else swap (bypass ring i)

abbrev pub bypass_groups : Ring → ℕ → ℕ → List (List Member)
bypass_groups ring i d = way (backward ring (back ring i (d + 1))) (bypass_op ring i d ∷ []) ∷ []

-- a row for what comes by a link
abbrev pub middle_row : Ring → ℕ → LinkId → TableRow
middle_row ring i e = row (along ring i).0 (middle_groups ring i) e

abbrev pub last_row : Ring → LinkId → TableRow
last_row ring e = row (along ring ring.path).0 last_groups e

-- the rows from those of a bypass on, from those of the path's last router on, and from those of a router within it on
abbrev pub from_bypass : Ring → ℕ → List TableRow
from_bypass ring i = flat_map (bypass_rows ring) (range_with_len i (ring.path - i))

abbrev pub from_middle : Ring → ℕ → List TableRow
from_middle ring i = flat_map (middle_rows ring) (range_with_len i (ring.path - i)) ++ last_rows ring ++ from_bypass ring 0

abbrev pub from_last : Ring → List TableRow
from_last ring = last_rows ring ++ from_bypass ring 0

-- the rows from that of a place on a bypass on
abbrev pub from_place : Ring → ℕ → ℕ → List TableRow
from_place ring i d = map (bypass_row ring i) (range_with_len d (ring.size - 1 - d)) ++ from_bypass ring (i + 1)
