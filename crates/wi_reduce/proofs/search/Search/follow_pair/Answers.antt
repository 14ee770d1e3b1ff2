use Rattle.std.proofs.Common.{rules}
use Rattle.wi_reduce.proofs.search.Search.follow_pair.Goals as goal

pub returns : goal.returns
returns c = search rules
