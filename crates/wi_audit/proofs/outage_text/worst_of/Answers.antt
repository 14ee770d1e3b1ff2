use Rattle.std.proofs.Common.{length, refl}
use Rattle.std.proofs.lemmas.Option.{slice_get_read}
use Rattle.wi_audit.proofs.Complaints.{worst_all, worst_next}
use Rattle.wi_audit.proofs.outage_text.worst_of.Goals as goal

pub loop-i-init : goal.loop-i-init
loop-i-init c = refl

pub loop-i-preserved : goal.loop-i-preserved
loop-i-preserved c =
    worst_next c.args.policies.now c.args.tried.now c.loop-i.i c.index-policies-i.result c.found_at-found.result c.loop-i.worst c.worse-worst.result _ (slice_get_read c.args.policies.now (length c.args.policies.now) c.loop-i.i _ refl c.loop-i-test.true c.index-policies-i.is)
    c.found_at-found.ensures c.loop-i.invariant (rw c.fulfilment_in.ensures at c.worse-worst.ensures)

pub returns : goal.returns
returns c = worst_all c.args.policies.now c.args.tried.now c.loop-i.i c.loop-i.worst _ c.loop-i-test.false c.loop-i.invariant
