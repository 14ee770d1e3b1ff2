use Rattle.std.proofs.Common.{rules}
use Rattle.wi_faults.proofs.query_faults.begin.Goals as goal

pub returns : goal.returns
returns c = search rules
