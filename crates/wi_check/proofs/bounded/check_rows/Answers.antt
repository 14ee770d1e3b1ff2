use Rattle.std.proofs.Common.{rules}
use Rattle.wi_check.proofs.bounded.check_rows.Goals as goal

pub returns-in-None-clause-passed : goal.returns-in-None-clause-passed
returns-in-None-clause-passed c = search rules
