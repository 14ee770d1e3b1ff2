use Rattle.std.proofs.Common.{rules}
use Rattle.wi_query.proofs.tree.repeated.Goals as goal

pub returns : goal.returns
returns c = search rules
