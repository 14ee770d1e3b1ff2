use Rattle.std.proofs.Common.{rules}
use Rattle.wi_make.proofs.plan_file.protected_by.Goals as goal

pub returns-in-Ok-clause-protecting : goal.returns-in-Ok-clause-protecting
returns-in-Ok-clause-protecting c = search rules
