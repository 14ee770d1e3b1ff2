use Rattle.std.proofs.Common.{rules}
use Rattle.std.proofs.Common.{sym}
use Rattle.wi_decide.proofs.ShowingLemmas.{label_more}
use Rattle.wi_decide.proofs.certificate.first_numbers.Goals as goal

pub loop-i-preserved : goal.loop-i-preserved
loop-i-preserved c = label_more c.args.header.now c.loop-i.i _ _ _ _ (sym c.in-Some.ensures) c.loop-i.invariant c.in_ok-push-2.ensures.items

pub loop-i-init : goal.loop-i-init
loop-i-init c = search rules
