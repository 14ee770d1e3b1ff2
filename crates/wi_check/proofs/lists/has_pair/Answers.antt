use Rattle.wi_check.proofs.Search.{listed}
use Rattle.wi_check.proofs.lists.has_pair.Goals as goal

pub returns : goal.returns
returns c = listed c.args.pairs.now c.args.upper c.args.lower c.binary_search.result c.is_ok.result c.requires c.binary_search.ensures.bound c.binary_search.ensures.position c.is_ok.ensures.value
