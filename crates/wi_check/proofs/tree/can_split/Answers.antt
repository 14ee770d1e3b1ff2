use Rattle.std.proofs.Common.{rules}
use Rattle.wi_check.proofs.tree.can_split.Goals as goal

pub returns-then-not-contains-2-clause-can : goal.returns-then-not-contains-2-clause-can
returns-then-not-contains-2-clause-can c = search rules
