use Rattle.std.proofs.Common.{rules}
use Rattle.wi_script.proofs.Scripts.{events_more}
use Rattle.wi_script.proofs.read.more_lines.Goals as goal

pub loop-left-preserved : goal.loop-left-preserved
loop-left-preserved c = events_more _ _ _ _ _ _ _ _ c.loop-left.invariant c.in-Some.ensures c.in-Ok.ensures c.in_ok-add-in-Ok.ensures

pub returns-in_default : goal.returns-in_default
returns-in_default c = search rules
