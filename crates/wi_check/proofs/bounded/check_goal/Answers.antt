use Rattle.std.proofs.Common.{rules}
use Rattle.wi_check.proofs.Rising.{rows_are}
use Rattle.wi_check.proofs.bounded.check_goal.Goals as goal

pub weight_to-requires : goal.weight_to-requires
weight_to-requires c = rows_are _ _ _ c.requires.shown c.requires.closed c.rows_of.ensures.terms c.rows_of.ensures.rows

pub returns-in-Some-clause-passed : goal.returns-in-Some-clause-passed
returns-in-Some-clause-passed c = search rules
