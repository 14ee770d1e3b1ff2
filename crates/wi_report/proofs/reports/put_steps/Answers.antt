use Rattle.std.proofs.Common.{Ok, ap}
use Rattle.wi_world.proofs.Known.{moved_known}
use Rattle.wi_report.proofs.ReportLemmas.{steps_left}
use Rattle.wi_report.proofs.reports.put_steps.Goals as goal

pub put_step_line-requires : goal.put_step_line-requires
put_step_line-requires c =
    let known = moved_known _ _ _ _ _ c.keeps.ensures c.loop-step.invariant.header (c.in_ok-follow.ensures.on (ap Ok c.if-not-branch.false)) in
    record { link = known.0; header = known.1 }

pub loop-step-preserved : goal.loop-step-preserved
loop-step-preserved c =
    let led = c.in_ok-follow.ensures.on (ap Ok c.if-not-branch.false) in
    let known = moved_known _ _ _ _ _ c.keeps.ensures c.loop-step.invariant.header led in
    record {
      link = known.0;
      header = known.1;
      text = steps_left c.args.net.now c.args.end c.loop-step.at c.follow.new.at c.args.steps.now c.loop-step.step-index _ _ _ _ c.loop-step-test.true led c.loop-step.invariant.text c.in_ok-put_step_line.ensures;
    }
