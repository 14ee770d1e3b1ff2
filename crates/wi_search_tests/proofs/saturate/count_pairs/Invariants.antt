use Rattle.std.proofs.Common.{◌≡◌, cond, take}
use Rattle.std.specs.List.{sum_by}
use Rattle.wi_saturate.specs.Tries.{is_from, rows_from}
use Rattle.wi_search_tests.proofs.saturate.count_pairs.Given as goal

abbrev pub invariant-loop-row : goal.invariant-loop-row
invariant-loop-row l = l.total ≡ sum_by (λ r. cond (is_from l.to l.u r) (rows_from l.rows r.q l.v) 0) (take l.row-index l.rows)
