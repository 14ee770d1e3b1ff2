use Rattle.std.proofs.Common.{rules}
use Rattle.wi_report.proofs.reports.put_length.Goals as goal

pub returns : goal.returns
returns c = search rules
