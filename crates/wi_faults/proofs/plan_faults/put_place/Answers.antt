use Rattle.std.proofs.Common.{rules}
use Rattle.wi_faults.proofs.plan_faults.put_place.Goals as goal

pub returns-in-BypassLink : goal.returns-in-BypassLink
returns-in-BypassLink c = search rules
