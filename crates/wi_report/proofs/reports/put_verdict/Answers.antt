use Rattle.std.proofs.Common.{rules}
use Rattle.wi_report.proofs.ReportLemmas.{needs_known}
use Rattle.wi_report.proofs.reports.put_verdict.Goals as goal

pub put_judged-requires : goal.put_judged-requires
put_judged-requires c = search (rules, needs_known)
