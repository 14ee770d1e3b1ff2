use Rattle.std.proofs.Common.{rules}
use Rattle.wi_reduce.proofs.search.Search.follow_head.Goals as goal

pub rules_of-requires : goal.rules_of-requires
rules_of-requires g c = search rules
