use Rattle.std.proofs.Common.{◌∙◌, length, refl}
use Rattle.std.proofs.lemmas.Option.{slice_get_read}
use Rattle.wi_audit.specs.Audits.{IsAuditBrokenOff}
use Rattle.wi_audit.specs.Texts.{IsAudited}
use Rattle.wi_audit.proofs.Putting.{all_put, cut_behind_plan, goes_on, made_is, refused_as, some_put, under_way, with_plan}
use Rattle.wi_audit.proofs.puts.audit.Goals as goal

pub loop-i-init : goal.loop-i-init
loop-i-init g c = under_way _ _ _

pub audited-requires-clause-askable : goal.audited-requires-clause-askable
audited-requires-clause-askable g c = c.requires.askable c.loop-i.i _ (slice_get_read c.args.policies.now (length c.args.policies.now) c.loop-i.i _ refl c.loop-i-test.true c.index-policies-i.is)

pub returns-in_err-fulfilment-clause-told : goal.returns-in_err-fulfilment-clause-told
returns-in_err-fulfilment-clause-told g c = c.in_err-fulfilment.ensures.told ∙ (c.loop-i.invariant.told ∙ c.in_ok-put_plan.ensures.told)

pub returns-in_err-fulfilment-clause-broken : goal.returns-in_err-fulfilment-clause-broken
returns-in_err-fulfilment-clause-broken g c =
    refused_as c.from_residual-in_err-fulfilment.result c.in_err-fulfilment.field-0.0 (λ refused. IsAuditBrokenOff c.args.net.now c.args.given.now c.args.policies.now refused (g.O.Sink.seen c.args.out.now) (g.O.Sink.seen c.put_test.new.out))
    c.from_residual-in_err-fulfilment.ensures.1
    (cut_behind_plan (IsAudited c.args.net.now c.args.given.now) c.args.policies.now _ (g.O.Sink.seen c.args.out.now) (g.O.Sink.seen c.put_plan.new.out) (g.O.Sink.seen c.put_test.new.out) c.in_ok-put_plan.ensures.told c.in_ok-put_plan.ensures.put
    (some_put (IsAudited c.args.net.now c.args.given.now) c.args.policies.now c.index-policies-i.result c.loop-i.i c.loop-i.worst c.audited.result _ (g.O.Sink.seen c.put_plan.new.out) (g.O.Sink.seen c.loop-i.out) (g.O.Sink.seen c.put_test.new.out)
    (slice_get_read c.args.policies.now (length c.args.policies.now) c.loop-i.i _ refl c.loop-i-test.true c.index-policies-i.is) c.loop-i.invariant (made_is c.audited.result _ c.audited.ensures) c.in_err-fulfilment.ensures.unput))

pub loop-i-preserved : goal.loop-i-preserved
loop-i-preserved g c =
    rw c.worse-worst.ensures
    (goes_on (IsAudited c.args.net.now c.args.given.now) c.args.policies.now c.index-policies-i.result c.loop-i.i c.loop-i.worst c.in_ok-fulfilment.fulfilment c.audited.result (g.O.Sink.seen c.put_plan.new.out) (g.O.Sink.seen c.loop-i.out) (g.O.Sink.seen c.put_test.new.out)
    (slice_get_read c.args.policies.now (length c.args.policies.now) c.loop-i.i _ refl c.loop-i-test.true c.index-policies-i.is) c.loop-i.invariant c.in_ok-fulfilment.ensures.told (made_is c.audited.result _ c.audited.ensures) c.in_ok-fulfilment.ensures.put)

pub returns-clause-told : goal.returns-clause-told
returns-clause-told g c = c.loop-i.invariant.told ∙ c.in_ok-put_plan.ensures.told

pub returns-clause-audited : goal.returns-clause-audited
returns-clause-audited g c =
    with_plan (IsAudited c.args.net.now c.args.given.now) c.args.policies.now _ (g.O.Sink.seen c.args.out.now) (g.O.Sink.seen c.put_plan.new.out) _ c.in_ok-put_plan.ensures.told c.in_ok-put_plan.ensures.put
    (all_put (IsAudited c.args.net.now c.args.given.now) c.args.policies.now c.loop-i.i _ c.loop-i.worst (g.O.Sink.seen c.put_plan.new.out) _ c.loop-i-test.false c.exit_status.ensures c.loop-i.invariant)
