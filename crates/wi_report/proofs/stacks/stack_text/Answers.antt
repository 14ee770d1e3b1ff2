use Rattle.std.proofs.Common.{rules}
use Rattle.wi_report.proofs.stacks.stack_text.Goals as goal

pub returns : goal.returns
returns c = search rules
