use Rattle.std.proofs.Common.{rules}
use Rattle.wi_net.specs.Builder.{member_rules}
use Rattle.wi_net.proofs.table.member_total.Goals as goal

pub returns-then-not-are_known-clause-answer : goal.returns-then-not-are_known-clause-answer
unfolding member_rules
returns-then-not-are_known-clause-answer c = search rules
