use Rattle.wi_check.proofs.Search.{listed}
use Rattle.wi_check.proofs.lists.has_head.Goals as goal

pub returns : goal.returns
returns c = listed c.args.heads.now c.args.p c.args.g c.binary_search.result c.is_ok.result c.requires c.binary_search.ensures.bound c.binary_search.ensures.position c.is_ok.ensures.value
