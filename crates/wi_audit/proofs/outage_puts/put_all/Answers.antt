use Rattle.wi_audit.specs.Outages.{IsOutageTested}
use Rattle.wi_audit.proofs.Putting.{all_behind_plan, some_behind_plan}
use Rattle.wi_audit.proofs.outage_puts.put_all.Goals as goal

pub returns-in-Ok-clause-tested : goal.returns-in-Ok-clause-tested
returns-in-Ok-clause-tested g c =
    all_behind_plan (IsOutageTested c.args.net.now c.args.given.now c.args.policies.now) c.args.outages.now c.put_each-status.result (g.O.Sink.seen c.args.out.now) (g.O.Sink.seen c.put_plan.new.out) (g.O.Sink.seen c.put_each-status.new.out) c.in_ok-put_plan.ensures.told
    c.in_ok-put_plan.ensures.put c.put_each-status.ensures.all

pub returns-in-Ok-clause-broken : goal.returns-in-Ok-clause-broken
returns-in-Ok-clause-broken g c =
    some_behind_plan (IsOutageTested c.args.net.now c.args.given.now c.args.policies.now) c.args.outages.now c.put_each-status.result (g.O.Sink.seen c.args.out.now) (g.O.Sink.seen c.put_plan.new.out) (g.O.Sink.seen c.put_each-status.new.out) c.in_ok-put_plan.ensures.told
    c.in_ok-put_plan.ensures.put c.put_each-status.ensures.some
