use Rattle.std.proofs.Common.{arith}
use Rattle.wi_check.proofs.EndLemmas.{work_on, work_off, work_all}
use Rattle.wi_check.proofs.weighed.work_before.Goals as goal

pub loop-done-preserved : goal.loop-done-preserved
loop-done-preserved c =
    work_on c.as_slice-ops.result.now c.loop-done.done _ c.loop-done-test.true c.loop-done.header c.apply.new.self _ (rw c.in-Ok-Done.field-0-is at c.in-Ok-Done.ensures.ok) c.loop-done.invariant

pub returns-in-Ok-Undefined-clause-work : goal.returns-in-Ok-Undefined-clause-work
returns-in-Ok-Undefined-clause-work c =
    let off = rw c.in-Ok-Undefined.field-0-is at c.in-Ok-Undefined.ensures.ok in
    let left = work_off c.as_slice-ops.result.now c.loop-done.done _ c.loop-done-test.true c.loop-done.header c.apply.new.self _ _ _ off.0 off.1 c.len.ensures c.loop-done.invariant in
    omega (arith, left)

pub returns-clause-work : goal.returns-clause-work
returns-clause-work c =
    work_all c.as_slice-ops.result.now c.loop-done.done _ c.loop-done.header _ c.loop-done-test.false c.loop-done.auto.done-end c.len-2.ensures c.loop-done.invariant
