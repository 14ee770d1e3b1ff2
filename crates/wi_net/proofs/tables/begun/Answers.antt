use Rattle.std.proofs.Common.{nat_le, sym, rules, ℕ}
use Rattle.std.proofs.lemmas.List.Sorted.{IsPartitionPoint-from_clause}
use Rattle.wi_net.proofs.MemberLemmas.{prefix_is}
use Rattle.wi_net.proofs.tables.begun.Goals as goal

pub returns : goal.returns
returns c =
    let p = λ (s : ℕ). nat_le s c.args.number in
    let point = IsPartitionPoint-from_clause p c.args.starts.now c.partition_point.result c.partition_point.ensures.partitioned c.requires (λ a r q k. search rules) in
    sym (prefix_is p c.args.starts.now c.partition_point.result c.partition_point.ensures.bound point.0 point.1)
