use Rattle.std.proofs.Common.{arith}
use Rattle.std.proofs.lemmas.Grind.{common_steps}
use Rattle.wi_faults.proofs.refused_decisions.put_first_over.Goals as goal

pub returns-then-value-ge-TOO_LARGE : goal.returns-then-value-ge-TOO_LARGE
returns-then-value-ge-TOO_LARGE c = grind (arith, common_steps)
