use Rattle.std.proofs.Common.{rules}
use Rattle.wi_trace.proofs.hop.is_first.Goals as goal

pub returns-in-Some : goal.returns-in-Some
returns-in-Some c = search rules
