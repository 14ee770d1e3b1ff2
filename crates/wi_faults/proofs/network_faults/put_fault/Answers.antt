use Rattle.std.proofs.Common.{rules}
use Rattle.wi_faults.proofs.network_faults.put_fault.Goals as goal

pub returns-in-BadName : goal.returns-in-BadName
returns-in-BadName c = search rules
