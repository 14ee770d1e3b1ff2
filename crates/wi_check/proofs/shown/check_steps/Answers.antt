use Rattle.std.proofs.Common.{rules}
use Rattle.wi_check.proofs.shown.check_steps.Goals as goal

pub returns-in-Some-clause-passed : goal.returns-in-Some-clause-passed
returns-in-Some-clause-passed c = search rules
