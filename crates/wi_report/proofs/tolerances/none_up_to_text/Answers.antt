use Rattle.std.proofs.Common.{rules}
use Rattle.wi_report.proofs.tolerances.none_up_to_text.Goals as goal

pub returns : goal.returns
returns c = search rules
