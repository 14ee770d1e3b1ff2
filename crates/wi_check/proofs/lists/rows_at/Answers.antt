use Rattle.std.proofs.Common.{rules}
use Rattle.std.proofs.lemmas.List.Sorted.{IsPartitionPoint-from_clause}
use Rattle.wi_check.specs.private.Lists.{is_row_of}
use Rattle.wi_check.proofs.Segments.{is_row_before, is_row_up_to, rows_before_parted, rows_up_to_parted, row_bounds, turns_in_order, between}
use Rattle.wi_check.proofs.lists.rows_at.Goals as goal

pub slice_bounds-result-count : goal.slice_bounds-result-count
slice_bounds-result-count c =
    let p = c.args.p in
    let g = c.args.g in
    let rows = c.args.rows.now in
    let begins = IsPartitionPoint-from_clause (is_row_before p g) _ _ c.partition_point-from.ensures.partitioned (rows_before_parted p g rows c.requires) (λ a r f k. search rules) in
    let ends = IsPartitionPoint-from_clause (is_row_up_to p g) _ _ c.partition_point-to.ensures.partitioned (rows_up_to_parted p g rows c.requires) (λ a r f k. search rules) in
    turns_in_order (is_row_before p g) (is_row_up_to p g) rows _ _ c.partition_point-from.ensures.bound begins ends (row_bounds p g).implies

pub slice_bounds-result-start : goal.slice_bounds-result-start
slice_bounds-result-start c = slice_bounds-result-count c

pub returns : goal.returns
returns c =
    let p = c.args.p in
    let g = c.args.g in
    let rows = c.args.rows.now in
    let begins = IsPartitionPoint-from_clause (is_row_before p g) _ _ c.partition_point-from.ensures.partitioned (rows_before_parted p g rows c.requires) (λ a r f k. search rules) in
    let ends = IsPartitionPoint-from_clause (is_row_up_to p g) _ _ c.partition_point-to.ensures.partitioned (rows_up_to_parted p g rows c.requires) (λ a r f k. search rules) in
    between (is_row_before p g) (is_row_up_to p g) (is_row_of p g) rows _ _ (row_bounds p g) c.partition_point-from.ensures.bound c.partition_point-to.ensures.bound begins ends
