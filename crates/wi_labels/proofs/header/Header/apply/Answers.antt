use Rattle.std.proofs.Common.{arith, rules}
use Rattle.std.proofs.lemmas.Grind.{common_steps}
use Rattle.wi_labels.proofs.header.Header.apply.Goals as goal

pub returns-clause-ok : goal.returns-clause-ok
returns-clause-ok c = grind (arith, common_steps)

pub returns-in_err-apply_one-clause-err : goal.returns-in_err-apply_one-clause-err
returns-in_err-apply_one-clause-err c = search rules

pub returns-then-not-branch-clause-ok : goal.returns-then-not-branch-clause-ok
returns-then-not-branch-clause-ok c = grind (arith, common_steps)
