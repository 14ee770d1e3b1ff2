use Rattle.wi_script.proofs.Meanings.{found_first, found_more, found_none, found_all}
use Rattle.wi_script.proofs.meaning.labels.Goals as goal

pub loop-name-init : goal.loop-name-init
loop-name-init c = rw c.new-labels.ensures.items (found_first _ _)

pub loop-name-preserved : goal.loop-name-preserved
loop-name-preserved c = found_more _ _ _ _ _ _ _ c.loop-name.invariant c.loop-name-test.true c.in_ok-push.ensures.items c.in-Some.ensures

pub returns-in_default : goal.returns-in_default
returns-in_default c = found_none _ _ _ _ _ c.loop-name.invariant c.loop-name-test.true c.in_default.ensures

pub returns : goal.returns
returns c = found_all _ _ _ _ c.loop-name.invariant c.loop-name-test.false
