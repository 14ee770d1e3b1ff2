use Rattle.std.proofs.Common.{sym, rules}
use Rattle.wi_script.proofs.Labels.{label_shorter, turns_first, held_on, held_end, held_stop}
use Rattle.wi_script.proofs.line.labels.Goals as goal

pub loop-left-init : goal.loop-left-init
loop-left-init c = record { utf8 = c.utf8.text; turns = rw c.new-labels.ensures.items (turns_first _) }

pub loop-left-smaller : goal.loop-left-smaller
loop-left-smaller c = label_shorter _ _ (sym c.in-Some.ensures)

pub returns-in_default : goal.returns-in_default
returns-in_default c = held_stop _ _ _ _ c.loop-left.invariant.turns c.in_default.ensures c.loop-left-test.ensures

pub loop-left-preserved : goal.loop-left-preserved
loop-left-preserved c = record { utf8 = search rules; turns = held_on _ _ _ _ _ _ _ c.loop-left.invariant.turns c.in_ok-push.ensures.items c.in-Some.ensures }

pub returns : goal.returns
returns c = held_end _ _ _ _ c.loop-left.invariant.turns c.loop-left-test.ensures
