use Rattle.wi_make.proofs.Bypassing.{lacking_known}
use Rattle.wi_make.proofs.bypass_file.printed_plan.Goals as goal

pub write_plan-requires-clause-known : goal.write_plan-requires-clause-known
write_plan-requires-clause-known c = lacking_known c.args.net.now c.args.plan.now c.args.unprotected.now c.requires.plan c.requires.lacking
