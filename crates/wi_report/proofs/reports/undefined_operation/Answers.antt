use Rattle.std.proofs.Common.{arith}
use Rattle.wi_report.proofs.ReportLemmas.{undefined_within}
use Rattle.wi_report.proofs.reports.undefined_operation.Goals as goal

pub overflow_add-result-in-Ok-Undefined : goal.overflow_add-result-in-Ok-Undefined
overflow_add-result-in-Ok-Undefined c =
    let tells = rw c.in-Ok-Undefined.field-0-is at c.in-Ok-Undefined.ensures.ok in
    let within = undefined_within 0 c.args.ops.now c.in_ok-header.header c.in-Ok-Undefined.i tells.0 in
    omega (arith, within)
