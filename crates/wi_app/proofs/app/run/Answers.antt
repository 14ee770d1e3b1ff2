use Rattle.std.proofs.Common.{map, refl, string_bytes, None}
use Rattle.wi_outcome.specs.declared.refusal.Refusal.TheVariants.{Memory, Usage}
use Rattle.wi_words.specs.Commands.{command_of}
use Rattle.wi_app.proofs.Outcomes.{does_as, does_completes, others_as, read_as, read_as_none, refused_does, words_memory}
use Rattle.wi_app.proofs.app.run.Goals as goal

pub returns-in-Ok-Some-clause-others : goal.returns-in-Ok-Some-clause-others
returns-in-Ok-Some-clause-others g c = others_as (map string_bytes c.args.words.now) _ (g.S.Shelf.seen c.args.shelf.now) (g.S.Shelf.seen c.obey.new.shelf) (read_as (map string_bytes c.args.words.now) c.in-Ok-Some.field-0 c.in-Ok-Some.command c.in-Ok-Some.field-0-is c.in-Ok-Some.ensures.command) c.obey.ensures.others

pub returns-in-Ok-Some-clause-does : goal.returns-in-Ok-Some-clause-does
returns-in-Ok-Some-clause-does g c =
    does_as (map string_bytes c.args.words.now) _ (g.S.Shelf.seen c.args.shelf.now) (g.S.Shelf.seen c.obey.new.shelf) (g.O.Sink.seen c.args.out.now) (g.O.Sink.seen c.obey.new.out) (g.E.Sink.seen c.args.err.now) (g.E.Sink.seen c.obey.new.err) c.obey.result
    (read_as (map string_bytes c.args.words.now) c.in-Ok-Some.field-0 c.in-Ok-Some.command c.in-Ok-Some.field-0-is c.in-Ok-Some.ensures.command) c.obey.ensures.does

pub returns-in-Ok-Some-clause-completes : goal.returns-in-Ok-Some-clause-completes
returns-in-Ok-Some-clause-completes g c =
    does_completes (map string_bytes c.args.words.now) _ (g.S.Shelf.seen c.args.shelf.now) (g.S.Shelf.seen c.obey.new.shelf) (g.O.Sink.seen c.args.out.now) (g.O.Sink.seen c.obey.new.out) (g.E.Sink.seen c.args.err.now) (g.E.Sink.seen c.obey.new.err) c.obey.result
    (read_as (map string_bytes c.args.words.now) c.in-Ok-Some.field-0 c.in-Ok-Some.command c.in-Ok-Some.field-0-is c.in-Ok-Some.ensures.command) c.obey.ensures.does

pub returns-in-Ok-None-clause-does : goal.returns-in-Ok-None-clause-does
returns-in-Ok-None-clause-does g c =
    let held = g.S.Shelf.seen c.args.shelf.now in
    let out = g.O.Sink.seen c.args.out.now in
    does_as (map string_bytes c.args.words.now) None held held out out (g.E.Sink.seen c.args.err.now) (g.E.Sink.seen c.say.new.err) c.say.result (read_as_none (map string_bytes c.args.words.now) c.in-Ok-None.field-0 c.in-Ok-None.field-0-is c.in-Ok-None.ensures.command)
    (refused_does None held held out (g.E.Sink.seen c.args.err.now) (g.E.Sink.seen c.say.new.err) c.say.result Usage refl (λ name. refl) c.say.ensures.said)

pub returns-in-Ok-None-clause-completes : goal.returns-in-Ok-None-clause-completes
returns-in-Ok-None-clause-completes g c =
    let held = g.S.Shelf.seen c.args.shelf.now in
    let out = g.O.Sink.seen c.args.out.now in
    does_completes (map string_bytes c.args.words.now) None held held out out (g.E.Sink.seen c.args.err.now) (g.E.Sink.seen c.say.new.err) c.say.result (read_as_none (map string_bytes c.args.words.now) c.in-Ok-None.field-0 c.in-Ok-None.field-0-is c.in-Ok-None.ensures.command)
    (refused_does None held held out (g.E.Sink.seen c.args.err.now) (g.E.Sink.seen c.say.new.err) c.say.result Usage refl (λ name. refl) c.say.ensures.said)

pub returns-in-Err-Memory-clause-does : goal.returns-in-Err-Memory-clause-does
returns-in-Err-Memory-clause-does g c =
    let held = g.S.Shelf.seen c.args.shelf.now in
    refused_does (command_of (map string_bytes c.args.words.now)) held held (g.O.Sink.seen c.args.out.now) (g.E.Sink.seen c.args.err.now) (g.E.Sink.seen c.say-in-Err-Memory.new.err) c.say-in-Err-Memory.result Memory (words_memory held (command_of (map string_bytes c.args.words.now))) (λ name. refl)
    c.say-in-Err-Memory.ensures.said

pub returns-in-Err-Memory-clause-completes : goal.returns-in-Err-Memory-clause-completes
returns-in-Err-Memory-clause-completes g c =
    let held = g.S.Shelf.seen c.args.shelf.now in
    let out = g.O.Sink.seen c.args.out.now in
    does_completes (map string_bytes c.args.words.now) (command_of (map string_bytes c.args.words.now)) held held out out (g.E.Sink.seen c.args.err.now) (g.E.Sink.seen c.say-in-Err-Memory.new.err) c.say-in-Err-Memory.result refl
    (refused_does (command_of (map string_bytes c.args.words.now)) held held out (g.E.Sink.seen c.args.err.now) (g.E.Sink.seen c.say-in-Err-Memory.new.err) c.say-in-Err-Memory.result Memory (words_memory held (command_of (map string_bytes c.args.words.now))) (λ name. refl) c.say-in-Err-Memory.ensures.said)
