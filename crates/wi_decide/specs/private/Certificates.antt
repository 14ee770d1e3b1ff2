-- A table of least summaries, as plain numbers.
use Rattle.std.specs.Prelude.{ℕ, ◌^◌, Bool, true, List, map, filter, Option, Some, None}
use Rattle.std.specs.Ordering.{is_lt}
use Rattle.wi_weight.specs.Weights.{EachBelow}
use Rattle.wi_quantity.specs.Weighing.{components}
use Rattle.wi_saturate.specs.declared.row.Row as settled
use Rattle.wi_saturate.specs.Rows.{TableView}
use Rattle.wi_build.specs.Systems.{scale}
use Rattle.wi_cert.specs.declared.row.Row.{Row}
use Rattle.wi_decide.specs.Showing.{Weight, shown_weight}

-- a row with so many terms in its weight
abbrev pub row_by : ℕ → settled.Row Weight → Row
row_by terms r = record { p = r.p; g = r.g; q = r.q; weight = shown_weight terms r.weight }

-- each component of its weight is at most 2^64 - 1
abbrev pub IsFitting : settled.Row Weight → Type 0
IsFitting r = EachBelow (2 ^ 64) (components r.weight)

-- less than the goal's weight, if there is one
abbrev pub is_below : Option Weight → Weight → Bool
is_below None w = true
is_below (Some b) w = is_lt (scale.order (components w) (components b))

-- the rows of a table that weigh less than its goal
abbrev pub rows_below : ℕ → TableView Weight → List Row
rows_below terms table = map (λ r. row_by terms r) (filter (λ r. is_below table.best r.weight) table.rows)
