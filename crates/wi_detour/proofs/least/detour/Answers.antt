use Rattle.std.proofs.Common.{rules}
use Rattle.wi_detour.proofs.least.detour.Goals as goal

pub returns-clause-none : goal.returns-clause-none
returns-clause-none c = search rules
