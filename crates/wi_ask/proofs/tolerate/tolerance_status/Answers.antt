use Rattle.std.proofs.Common.{rules}
use Rattle.wi_ask.proofs.tolerate.tolerance_status.Goals as goal

pub returns-in-NoneUpTo : goal.returns-in-NoneUpTo
returns-in-NoneUpTo c = search rules
