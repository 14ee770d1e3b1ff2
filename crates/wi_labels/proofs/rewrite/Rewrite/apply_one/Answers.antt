use Rattle.std.proofs.Common.{arith}
use Rattle.std.proofs.lemmas.Grind.{common_steps}
use Rattle.wi_labels.proofs.rewrite.Rewrite.apply_one.Goals as goal

pub returns-in_ok-push-in-Swap-clause-defined : goal.returns-in_ok-push-in-Swap-clause-defined
returns-in_ok-push-in-Swap-clause-defined c = grind (arith, common_steps)
