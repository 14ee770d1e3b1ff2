use Rattle.std.proofs.Common.{rules}
use Rattle.wi_report.proofs.reports.put_mode.Goals as goal

pub returns-in-Exact-default : goal.returns-in-Exact-default
returns-in-Exact-default c = search rules
