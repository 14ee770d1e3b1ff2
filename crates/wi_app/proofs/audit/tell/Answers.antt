use Rattle.wi_app.proofs.Auditing.{all_tested, not_tested}
use Rattle.wi_app.proofs.audit.tell.Goals as goal

pub returns-in-Ok-clause-told : goal.returns-in-Ok-clause-told
returns-in-Ok-clause-told g c = all_tested c.args.tested _ _ _ (g.O.Sink.seen c.args.out.now) (g.O.Sink.seen c.test_all.new.out) (g.E.Sink.seen c.args.err.now) _ c.in-Ok.ensures.tested

pub returns-in-Err-clause-told : goal.returns-in-Err-clause-told
returns-in-Err-clause-told g c =
    not_tested c.args.tested _ _ _ c.in-Err.refused (g.O.Sink.seen c.args.out.now) (g.O.Sink.seen c.test_all.new.out) (g.E.Sink.seen c.args.err.now) (g.E.Sink.seen c.say_unprinted.new.err) _ c.in-Err.ensures.broken c.say_unprinted.ensures.said
