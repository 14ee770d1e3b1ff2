use Rattle.std.proofs.Common.{arith, rules}
use Rattle.std.proofs.lemmas.Grind.{common_steps}
use Rattle.wi_base.proofs.Files.{puts}
use Rattle.wi_base.proofs.memory_shelf.MemoryShelfShelf.store.Goals as goal

pub returns-then-is_to_fail-clause-failed : goal.returns-then-is_to_fail-clause-failed
returns-then-is_to_fail-clause-failed c = grind (arith, common_steps)

pub returns-in-Ok-put_file-clause-others : goal.returns-in-Ok-put_file-clause-others
returns-in-Ok-put_file-clause-others c = search (rules, puts)
