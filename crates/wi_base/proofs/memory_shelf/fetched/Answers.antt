use Rattle.std.proofs.Common.{arith, rules}
use Rattle.std.proofs.lemmas.Grind.{common_steps}
use Rattle.wi_base.proofs.memory_shelf.fetched.Goals as goal

pub returns-in_default-bytes_under-clause-failed : goal.returns-in_default-bytes_under-clause-failed
returns-in_default-bytes_under-clause-failed c = grind (arith, common_steps)

pub returns-in_default-bytes_under-clause-sure : goal.returns-in_default-bytes_under-clause-sure
returns-in_default-bytes_under-clause-sure c = search rules
