use Rattle.std.proofs.Common.{sym, ap, ◌∙◌, ◌+◌, [], Ok}
use Rattle.wi_cert.specs.Reading.{fed}
use Rattle.wi_cert.specs.private.Marks.{reading}
use Rattle.wi_cert.proofs.ReadingLemmas.{held_taken_on, held_refused_at, held_on, carried}
use Rattle.wi_cert.proofs.feeder.take_piece.Goals as goal

pub returns-in_default-clause-ok : goal.returns-in_default-clause-ok
returns-in_default-clause-ok g c = held_on g.D.TakeLines.form g.D.TakeLines.count c.args.held.now.items c.args.piece.now c.args.draft.now c.in_default.ensures ∙ ap (λ bytes. Ok (reading g.D.TakeLines.count bytes c.args.draft.now)) (sym c.in_ok-extend_from_slice.ensures.items)

pub returns-then-branch-clause-ok : goal.returns-then-branch-clause-ok
returns-then-branch-clause-ok g c = carried c.take_lines-then-branch.result (fed g.D.TakeLines.form (Ok (reading g.D.TakeLines.count c.args.held.now.items c.args.draft.now)) c.args.piece.now) (fed g.D.TakeLines.form (Ok (reading g.D.TakeLines.count [] c.take_line.new.self)) c.in-Some.rest.now)
    (Ok (reading g.D.TakeLines.count c.take_lines-then-branch.new.held.items c.take_lines-then-branch.new.draft)) (g.D.TakeLines.count c.take_lines-then-branch.new.draft + 1)
    (held_taken_on g.D.TakeLines.form g.D.TakeLines.count c.args.held.now.items c.in-Some.end.now c.in-Some.rest.now c.args.piece.now c.deref.result.now c.args.draft.now c.take_line.new.self c.in_ok-take_line.field-0 c.in_ok-take_line.ensures.ok
    (c.deref.ensures.value ∙ c.in_ok-extend_from_slice-2.ensures.items) c.if-branch.true (c.in_ok-take_line.ensures.taken c.if-branch.true) c.in-Some.ensures.0 c.in-Some.ensures.1)
    c.take_lines-then-branch.ensures.ok

pub returns-else-branch-clause-ok : goal.returns-else-branch-clause-ok
returns-else-branch-clause-ok g c = held_refused_at g.D.TakeLines.form g.D.TakeLines.count c.args.held.now.items c.in-Some.end.now c.in-Some.rest.now c.args.piece.now c.deref.result.now c.args.draft.now c.take_line.new.self c.in_ok-take_line.field-0 c.in_ok-take_line.ensures.ok
    (c.deref.ensures.value ∙ c.in_ok-extend_from_slice-2.ensures.items) c.if-branch.false (c.in_ok-take_line.ensures.kept c.if-branch.false) c.in-Some.ensures.0 c.in-Some.ensures.1
