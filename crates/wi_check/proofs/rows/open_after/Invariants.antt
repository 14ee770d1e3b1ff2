use Rattle.std.proofs.Common.{◌≡◌, drop, map}
use Rattle.std.specs.Prelude.{find}
use Rattle.wi_quantity.specs.Weighing.{components}
use Rattle.wi_accept.specs.Causes.{rows_of}
use Rattle.wi_check.proofs.RowLemmas.{one_part, is_open_in}
use Rattle.wi_check.proofs.rows.open_after.Given as goal

abbrev pub invariant-loop-part : goal.invariant-loop-part
invariant-loop-part l = find (is_open_in l.rows l.bound) (map (one_part l.head (components l.weight)) (rows_of l.rows.terms (drop l.part-index l.parts)))
    ≡ find (is_open_in l.rows l.bound) (map (one_part l.head (components l.weight)) (rows_of l.rows.terms l.parts))
