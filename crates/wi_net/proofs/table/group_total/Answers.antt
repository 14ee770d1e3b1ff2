use Rattle.std.proofs.Common.{rules}
use Rattle.wi_net.specs.Builder.{group_rules}
use Rattle.wi_net.proofs.table.group_total.Goals as goal

pub returns-clause-answer : goal.returns-clause-answer
unfolding group_rules
returns-clause-answer c = search rules
