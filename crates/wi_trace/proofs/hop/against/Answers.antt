use Rattle.std.proofs.Common.{rules}
use Rattle.wi_trace.proofs.hop.against.Goals as goal

pub returns-in_ok-needs-in-Moving : goal.returns-in_ok-needs-in-Moving
returns-in_ok-needs-in-Moving c = search rules
