use Rattle.std.proofs.Common.{sym}
use Rattle.wi_check.proofs.WalkLemmas.{label_next}
use Rattle.wi_check.proofs.matched.labels_of.Goals as goal

pub loop-i-preserved : goal.loop-i-preserved
loop-i-preserved c = label_next c.loop-i.word.items _ c.args.header.now c.loop-i.i (c.in-Some.label, c.in-Some.field-0-1) _ c.in_ok-push-in-Some.ensures.items (sym c.in-Some.ensures) c.loop-i.invariant
