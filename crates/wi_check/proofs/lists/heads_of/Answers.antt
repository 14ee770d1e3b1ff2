use Rattle.std.proofs.Common.{rules, ◌==◌}
use Rattle.std.proofs.lemmas.List.Sorted.{IsPartitionPoint-from_clause}
use Rattle.wi_check.proofs.Segments.{is_pair_before, is_pair_up_to, pairs_before_parted, pairs_up_to_parted, pair_bounds, turns_in_order, between}
use Rattle.wi_check.proofs.lists.heads_of.Goals as goal

pub slice_bounds-result-count : goal.slice_bounds-result-count
slice_bounds-result-count c =
    let p = c.args.p in
    let heads = c.args.heads.now in
    let begins = IsPartitionPoint-from_clause (is_pair_before p) _ _ c.partition_point-from.ensures.partitioned (pairs_before_parted p heads c.requires) (λ a r f k. search rules) in
    let ends = IsPartitionPoint-from_clause (is_pair_up_to p) _ _ c.partition_point-to.ensures.partitioned (pairs_up_to_parted p heads c.requires) (λ a r f k. search rules) in
    turns_in_order (is_pair_before p) (is_pair_up_to p) heads _ _ c.partition_point-from.ensures.bound begins ends (pair_bounds p).implies

pub slice_bounds-result-start : goal.slice_bounds-result-start
slice_bounds-result-start c = slice_bounds-result-count c

pub returns : goal.returns
returns c =
    let p = c.args.p in
    let heads = c.args.heads.now in
    let begins = IsPartitionPoint-from_clause (is_pair_before p) _ _ c.partition_point-from.ensures.partitioned (pairs_before_parted p heads c.requires) (λ a r f k. search rules) in
    let ends = IsPartitionPoint-from_clause (is_pair_up_to p) _ _ c.partition_point-to.ensures.partitioned (pairs_up_to_parted p heads c.requires) (λ a r f k. search rules) in
    between (is_pair_before p) (is_pair_up_to p) (λ x. x.0 == p) heads _ _ (pair_bounds p) c.partition_point-from.ensures.bound c.partition_point-to.ensures.bound begins ends
