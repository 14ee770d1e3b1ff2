use Rattle.std.proofs.Common.{◌≡◌, ◌++◌, drop, take, map}
use Rattle.std.specs.List.{All, flat_map}
use Rattle.wi_cert.specs.Closed.{row_line, HasRowRanges}
use Rattle.wi_cert.specs.Text.{ended}
use Rattle.wi_cert.proofs.writer.put_rows.Given as goal

abbrev pub invariant-loop-row : goal.invariant-loop-row
invariant-loop-row l = record {
  text : l.out.items ++ flat_map ended (map row_line (drop l.row-index l.rows)) ≡ l.initial.out.items ++ flat_map ended (map row_line l.rows);
  ranges : All (λ x. HasRowRanges x) (take l.row-index l.rows);
}
