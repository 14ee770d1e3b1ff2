use Rattle.wi_make.proofs.Bypassing.{plan_printed, plan_unprinted}
use Rattle.wi_make.proofs.bypass_file.bypassed_by.Goals as goal

pub returns-clause-bypassing : goal.returns-clause-bypassing
returns-clause-bypassing c =
    plan_printed c.printed_plan-printed.result c.args.bytes.now c.args.net.now c.args.plan c.in_ok-plan.plan c.in_ok-plan.unprotected c.requires c.in_ok-plan.ensures c.a_plan_without_unprotected_links_survives.ensures c.printed_plan-printed.ensures.written

pub returns-clause-refused : goal.returns-clause-refused
returns-clause-refused c = plan_unprinted c.printed_plan-printed.result c.args.bytes.now c.args.net.now c.args.plan c.in_ok-plan.plan c.in_ok-plan.unprotected c.requires c.in_ok-plan.ensures c.printed_plan-printed.ensures.refused
