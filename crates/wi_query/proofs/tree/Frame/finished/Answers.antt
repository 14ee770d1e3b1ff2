use Rattle.std.proofs.Common.{rules}
use Rattle.wi_query.proofs.tree.Frame.finished.Goals as goal

pub returns : goal.returns
returns c = search rules
