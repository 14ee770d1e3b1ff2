use Rattle.std.proofs.Common.{rules}
use Rattle.wi_trace.proofs.hop.apply.Goals as goal

pub returns-in-Ok-Undefined-clause-goes : goal.returns-in-Ok-Undefined-clause-goes
returns-in-Ok-Undefined-clause-goes c = search rules
