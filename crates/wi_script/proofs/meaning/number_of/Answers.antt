use Rattle.std.proofs.Common.{rules}
use Rattle.wi_script.proofs.Numbers.{past_all}
use Rattle.wi_script.proofs.meaning.number_of.Goals as goal

pub returns-in-Err : goal.returns-in-Err
returns-in-Err c = past_all c.args.number.now c.parse.result _ c.requires c.parse.ensures.value.0 c.in-Err.is

pub returns-in-Ok : goal.returns-in-Ok
returns-in-Ok c = search rules
