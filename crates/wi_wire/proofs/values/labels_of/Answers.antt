use Rattle.wi_wire.proofs.NameLemmas.{labels_next, labels_stop}
use Rattle.wi_wire.proofs.values.labels_of.Goals as goal

pub returns-in-None : goal.returns-in-None
returns-in-None c = labels_stop c.args.net.now _ _ (record { label = 0; exp = 0; ttl = 0 }) _ c.loop-i.labels.items _ c.loop-i-test.true c.class_of-class.ensures c.in_ok-label.ensures c.in-None.is c.loop-i.invariant

pub loop-i-preserved : goal.loop-i-preserved
loop-i-preserved c = labels_next c.args.net.now _ _ (record { label = 0; exp = 0; ttl = 0 }) _ _ _ _ _ c.loop-i-test.true c.class_of-class.ensures c.in_ok-label.ensures c.in-Some.is c.in_ok-push-in-Some.ensures.items c.loop-i.invariant
