use Rattle.std.proofs.Common.{rules}
use Rattle.wi_check.proofs.tree.check_leaf.Goals as goal

pub returns-in-Ok-clause-checked : goal.returns-in-Ok-clause-checked
returns-in-Ok-clause-checked c = search rules
