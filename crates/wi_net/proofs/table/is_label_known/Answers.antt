use Rattle.std.proofs.Common.{arith, rules}
use Rattle.std.proofs.lemmas.Grind.{common_steps}
use Rattle.wi_net.proofs.table.is_label_known.Goals as goal

pub returns-in-Some : goal.returns-in-Some
returns-in-Some c = first_of (search rules, grind (arith, common_steps))
