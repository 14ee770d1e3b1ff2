use Rattle.std.proofs.Common.{rules}
use Rattle.wi_report.proofs.reports.put_found.Goals as goal

pub returns-in_default : goal.returns-in_default
returns-in_default c = search rules
