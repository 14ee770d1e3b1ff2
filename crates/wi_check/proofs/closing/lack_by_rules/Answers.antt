use Rattle.std.proofs.Common.{rules}
use Rattle.wi_check.proofs.closing.lack_by_rules.Goals as goal

pub returns-in-Some-clause-demand : goal.returns-in-Some-clause-demand
returns-in-Some-clause-demand c = search rules

pub returns-in-None-clause-demand : goal.returns-in-None-clause-demand
returns-in-None-clause-demand c = search rules
