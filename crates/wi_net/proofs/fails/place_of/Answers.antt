use Rattle.std.proofs.Common.{nat_lt, sym, rules}
use Rattle.std.proofs.lemmas.List.Sorted.{IsPartitionPoint-from_clause}
use Rattle.wi_net.proofs.RisingLemmas.{parted, place_is}
use Rattle.wi_net.proofs.fails.place_of.Goals as goal

pub returns-clause-place : goal.returns-clause-place
returns-clause-place c =
    let point = IsPartitionPoint-from_clause (λ x. nat_lt x.0 c.args.link.0) c.args.links.now c.partition_point.result c.partition_point.ensures.partitioned (parted c.args.link c.args.links.now c.requires) (λ a r q k. search rules) in
    sym (place_is (λ x. nat_lt x.0 c.args.link.0) c.args.links.now c.partition_point.result c.partition_point.ensures.bound point.0 point.1)
