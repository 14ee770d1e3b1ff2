use Rattle.std.proofs.Common.{Some}
use Rattle.wi_words.specs.Shown.{printing_shown}
use Rattle.wi_app.proofs.Outcomes.{done_does, refused_does}
use Rattle.wi_app.proofs.answer.answer.Goals as goal

pub returns-in-Ok-clause-does : goal.returns-in-Ok-clause-does
returns-in-Ok-clause-does g c =
    done_does (printing_shown c.args.printing) (g.S.Shelf.seen c.args.shelf.now) (g.S.Shelf.seen c.answer_to.new.shelf) (g.O.Sink.seen c.args.out.now) (g.O.Sink.seen c.print.new.out) (g.E.Sink.seen c.args.err.now) (g.E.Sink.seen c.print.new.err) c.print.result _ _
    c.in-Ok.ensures.answered c.in-Ok.ensures.calm c.print.ensures.printed

pub returns-in-Err-clause-does : goal.returns-in-Err-clause-does
returns-in-Err-clause-does g c =
    refused_does (Some (printing_shown c.args.printing)) (g.S.Shelf.seen c.args.shelf.now) (g.S.Shelf.seen c.answer_to.new.shelf) (g.O.Sink.seen c.args.out.now) (g.E.Sink.seen c.args.err.now) (g.E.Sink.seen c.say.new.err) c.say.result c.in-Err.refusal
    c.in-Err.ensures.refused c.in-Err.ensures.left c.say.ensures.said
