use Rattle.std.proofs.Common.{arith}
use Rattle.std.proofs.lemmas.Grind.{elements}
use Rattle.wi_net.proofs.builder.put_group.Goals as goal

pub returns-in-Some-get-clause-first : goal.returns-in-Some-get-clause-first
returns-in-Some-get-clause-first c = grind (arith, elements)
