use Rattle.std.proofs.Common.{rules}
use Rattle.wi_report.proofs.tolerances.tolerance_report.Goals as goal

pub returns : goal.returns
returns c = search rules
