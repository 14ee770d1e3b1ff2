use Rattle.std.proofs.Common.{◌∙◌, length, refl}
use Rattle.std.proofs.lemmas.Option.{slice_get_read}
use Rattle.wi_audit.specs.Outages.{IsOutageTested}
use Rattle.wi_audit.specs.private.Puts.{AreSomePut}
use Rattle.wi_audit.proofs.Putting.{all_put, goes_on, made_is, made_on, refused_as, some_put, under_way}
use Rattle.wi_audit.proofs.outage_puts.put_each.Goals as goal

pub loop-i-init : goal.loop-i-init
loop-i-init g c = record { way = under_way _ _ _; questions = c.requires.questions }

pub outage_tested-made-requires-clause-questions : goal.outage_tested-made-requires-clause-questions
outage_tested-made-requires-clause-questions g c = c.loop-i.invariant.questions

pub returns-in_err-fulfilment-clause-told : goal.returns-in_err-fulfilment-clause-told
returns-in_err-fulfilment-clause-told g c = c.in_err-fulfilment.ensures.told ∙ c.loop-i.invariant.way.told

pub returns-in_err-fulfilment-clause-some : goal.returns-in_err-fulfilment-clause-some
returns-in_err-fulfilment-clause-some g c =
    refused_as c.from_residual.result c.in_err-fulfilment.field-0.0
    (λ refused. AreSomePut (IsOutageTested c.args.net.now c.args.given.now c.args.policies.now) c.args.outages.now refused (g.O.Sink.seen c.args.out.now) (g.O.Sink.seen c.put_test.new.out)) c.from_residual.ensures.1
    (some_put (IsOutageTested c.args.net.now c.args.given.now c.args.policies.now) c.args.outages.now c.index-outages-i.result c.loop-i.i c.loop-i.worst c.outage_tested-made.result _ (g.O.Sink.seen c.args.out.now) (g.O.Sink.seen c.loop-i.out) (g.O.Sink.seen c.put_test.new.out)
    (slice_get_read c.args.outages.now (length c.args.outages.now) c.loop-i.i _ refl c.loop-i-test.true c.index-outages-i.is) c.loop-i.invariant.way (made_is c.outage_tested-made.result _ c.outage_tested-made.ensures.tested) c.in_err-fulfilment.ensures.unput)

pub loop-i-preserved : goal.loop-i-preserved
loop-i-preserved g c = record {
  way = rw c.worse-worst.ensures
      (goes_on (IsOutageTested c.args.net.now c.args.given.now c.args.policies.now) c.args.outages.now c.index-outages-i.result c.loop-i.i c.loop-i.worst c.in_ok-fulfilment.fulfilment c.outage_tested-made.result (g.O.Sink.seen c.args.out.now) (g.O.Sink.seen c.loop-i.out) (g.O.Sink.seen c.put_test.new.out)
      (slice_get_read c.args.outages.now (length c.args.outages.now) c.loop-i.i _ refl c.loop-i-test.true c.index-outages-i.is) c.loop-i.invariant.way c.in_ok-fulfilment.ensures.told (made_is c.outage_tested-made.result _ c.outage_tested-made.ensures.tested) c.in_ok-fulfilment.ensures.put);
  questions = made_on c.outage_tested-made.result _ c.in_ok-fulfilment.ensures.put.test c.outage_tested-made.ensures.questions c.in_ok-fulfilment.ensures.put.made;
}

pub returns-clause-told : goal.returns-clause-told
returns-clause-told g c = c.loop-i.invariant.way.told

pub returns-clause-all : goal.returns-clause-all
returns-clause-all g c = all_put (IsOutageTested c.args.net.now c.args.given.now c.args.policies.now) c.args.outages.now c.loop-i.i _ c.loop-i.worst (g.O.Sink.seen c.args.out.now) _ c.loop-i-test.false c.exit_status.ensures c.loop-i.invariant.way
