use Rattle.std.proofs.Common.{rules}
use Rattle.wi_base.proofs.decimal.number_after.Goals as goal

pub returns-in-Some-eq0 : goal.returns-in-Some-eq0
returns-in-Some-eq0 c = search rules
