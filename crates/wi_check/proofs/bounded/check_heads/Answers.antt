use Rattle.std.proofs.Common.{rules}
use Rattle.wi_check.proofs.bounded.check_heads.Goals as goal

pub returns-in-Some-Pair-clause-none : goal.returns-in-Some-Pair-clause-none
returns-in-Some-Pair-clause-none c = search rules
