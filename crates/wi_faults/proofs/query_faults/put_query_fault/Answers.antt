use Rattle.std.proofs.Common.{rules}
use Rattle.wi_faults.proofs.query_faults.put_query_fault.Goals as goal

pub returns-in-UnknownRouter : goal.returns-in-UnknownRouter
returns-in-UnknownRouter c = search rules
