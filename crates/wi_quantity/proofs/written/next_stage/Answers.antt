use Rattle.std.proofs.Common.{rules}
use Rattle.wi_quantity.proofs.written.next_stage.Goals as goal

pub returns-in-InNumber-Zero : goal.returns-in-InNumber-Zero
returns-in-InNumber-Zero c = search rules
