use Rattle.std.proofs.Common.{◌≡◌, drop}
use Rattle.std.specs.Prelude.{find}
use Rattle.std.specs.List.{flat_map}
use Rattle.wi_quantity.specs.Weighing.{components}
use Rattle.wi_accept.specs.Causes.{rows_of}
use Rattle.wi_check.specs.private.Rows.{summaries}
use Rattle.wi_check.proofs.RowLemmas.{two_parts, is_open_in}
use Rattle.wi_check.proofs.rows.open_after_two.Given as goal

abbrev pub invariant-loop-part : goal.invariant-loop-part
invariant-loop-part l = find (is_open_in l.rows l.bound) (flat_map (two_parts l.head (components l.weight) (summaries l.rows) l.v) (rows_of l.rows.terms (drop l.part-index l.parts)))
    ≡ find (is_open_in l.rows l.bound) (flat_map (two_parts l.head (components l.weight) (summaries l.rows) l.v) (rows_of l.rows.terms l.parts))
