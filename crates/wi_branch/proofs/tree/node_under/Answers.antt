use Rattle.std.proofs.Common.{rules}
use Rattle.wi_branch.proofs.tree.node_under.Goals as goal

pub returns-in-Closed : goal.returns-in-Closed
returns-in-Closed c = search rules
