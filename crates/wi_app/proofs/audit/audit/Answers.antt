use Rattle.std.proofs.Common.{Some}
use Rattle.wi_words.specs.Commands.{Audit}
use Rattle.wi_words.specs.Shown.{auditing_shown}
use Rattle.wi_app.proofs.Auditing.{askable, telling_does}
use Rattle.wi_app.proofs.Outcomes.{all_left, refused_does}
use Rattle.wi_app.proofs.audit.audit.Goals as goal

pub tell-status-requires-clause-askable : goal.tell-status-requires-clause-askable
tell-status-requires-clause-askable g c = askable (g.S.Shelf.seen c.args.shelf.now) _ _ _ _ _ _ c.in-Ok.ensures.read

pub returns-in-Ok-clause-does : goal.returns-in-Ok-clause-does
returns-in-Ok-clause-does g c =
    telling_does (auditing_shown c.args.auditing) (g.S.Shelf.seen c.args.shelf.now) (g.S.Shelf.seen c.fetch_policies.new.shelf) (g.O.Sink.seen c.args.out.now) (g.O.Sink.seen c.tell-status.new.out) (g.E.Sink.seen c.args.err.now) (g.E.Sink.seen c.tell-status.new.err) c.tell-status.result
    _ _ _ c.in-Ok.ensures.read c.in-Ok.ensures.calm c.tell-status.ensures.told

pub returns-in-Err-clause-does : goal.returns-in-Err-clause-does
returns-in-Err-clause-does g c =
    refused_does (Some (Audit (auditing_shown c.args.auditing))) (g.S.Shelf.seen c.args.shelf.now) (g.S.Shelf.seen c.fetch_policies.new.shelf) (g.O.Sink.seen c.args.out.now) (g.E.Sink.seen c.args.err.now) (g.E.Sink.seen c.say.new.err) c.say.result c.in-Err.refusal
    c.in-Err.ensures.refused (all_left c.in-Err.refusal _ _ c.fetch_policies.ensures.files) c.say.ensures.said
