use Rattle.std.proofs.Common.{rules}
use Rattle.wi_check.proofs.TreeLemmas.{taken}
use Rattle.wi_check.proofs.tree.check_split.Goals as goal

pub returns-clause-checked : goal.returns-clause-checked
returns-clause-checked c = (search rules, rw (taken _ _ _ c.in_ok-put-2.ensures, taken _ _ _ c.in_ok-put.ensures) (search rules))
