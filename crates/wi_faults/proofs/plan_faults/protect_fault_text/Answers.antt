use Rattle.std.proofs.Common.{rules}
use Rattle.wi_faults.proofs.plan_faults.protect_fault_text.Goals as goal

pub returns : goal.returns
returns c = search rules
