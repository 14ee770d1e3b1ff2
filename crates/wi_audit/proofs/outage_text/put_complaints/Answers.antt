use Rattle.std.proofs.Common.{length, refl}
use Rattle.std.proofs.lemmas.Option.{slice_get_read}
use Rattle.wi_audit.proofs.Complaints.{complaints_all, complaints_next}
use Rattle.wi_audit.proofs.outage_text.put_complaints.Goals as goal

pub loop-i-init : goal.loop-i-init
loop-i-init c = refl

pub loop-i-preserved : goal.loop-i-preserved
loop-i-preserved c =
    complaints_next c.args.policies.now c.args.tried.now c.loop-i.i c.index-policies-i.result c.found_at.result _ _ _ (slice_get_read c.args.policies.now (length c.args.policies.now) c.loop-i.i _ refl c.loop-i-test.true c.index-policies-i.is)
    c.found_at.ensures c.loop-i.invariant c.in_ok-put_complaint.ensures

pub returns : goal.returns
returns c = complaints_all c.args.policies.now c.args.tried.now c.loop-i.i _ _ c.loop-i-test.false c.loop-i.invariant
