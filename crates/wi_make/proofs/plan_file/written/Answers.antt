use Rattle.std.proofs.Common.{rules}
use Rattle.wi_make.proofs.plan_file.written.Goals as goal

pub returns-then-len-clause-refused : goal.returns-then-len-clause-refused
returns-then-len-clause-refused c = search rules
