use Rattle.std.proofs.Common.{◌<◌, ◌^◌, arith}
use Rattle.wi_check.proofs.WeightLemmas.{end_fits, end_weighs}
use Rattle.wi_check.proofs.weighed.end_share_of.Goals as goal

pub end_weight-share-requires : goal.end_weight-share-requires
end_weight-share-requires c = let fits : c.count.result < 2 ^ 32 = end_fits _ _ _ _ _ c.keeps.ensures c.count.ensures c.in_ok-needs.ensures in omega (arith, fits)

pub returns-clause-weight : goal.returns-clause-weight
returns-clause-weight c = end_weighs c.args.net.now c.args.at.now c.args.end c.in_ok-needs.needs _ c.args.vector.now _ c.end_weight-share.ensures.value (omega arith) c.in_ok-needs.ensures
