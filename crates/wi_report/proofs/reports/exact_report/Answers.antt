use Rattle.std.proofs.Common.{rules}
use Rattle.wi_report.proofs.reports.exact_report.Goals as goal

pub returns : goal.returns
returns c = search rules
