use Rattle.std.proofs.Common.{sym, ap, ◌∙◌, [], Ok}
use Rattle.wi_cert.specs.private.Marks.{reading}
use Rattle.wi_cert.proofs.ReadingLemmas.{taken_on, refused_at, held_on}
use Rattle.wi_cert.proofs.feeder.take_lines.Goals as goal

pub returns-then-not-branch-clause-ok : goal.returns-then-not-branch-clause-ok
returns-then-not-branch-clause-ok g c = sym c.lines.invariant.on
    ∙ refused_at g.D.TakeLines.form g.D.TakeLines.count [] c.in-Some.line.now c.in-Some.behind.now c.lines.rest.now c.lines.draft c.take_line.new.self c.in_ok-take_line.field-0 c.in_ok-take_line.ensures.ok c.if-not-branch.true (c.in_ok-take_line.ensures.kept c.if-not-branch.true) c.in-Some.ensures.0 c.in-Some.ensures.1

pub lines-preserved : goal.lines-preserved
lines-preserved g c = record {
  on = taken_on g.D.TakeLines.form g.D.TakeLines.count [] c.in-Some.line.now c.in-Some.behind.now c.lines.rest.now c.lines.draft c.take_line.new.self c.in_ok-take_line.field-0 c.in_ok-take_line.ensures.ok c.if-not-branch.false (c.in_ok-take_line.ensures.taken c.if-not-branch.false) c.in-Some.ensures.0 c.in-Some.ensures.1 ∙ c.lines.invariant.on;
  follows = λ mark before. c.in_ok-take_line.ensures.follows mark (c.lines.invariant.follows mark before);
}

pub returns-clause-ok : goal.returns-clause-ok
returns-clause-ok g c = sym c.lines.invariant.on ∙ held_on g.D.TakeLines.form g.D.TakeLines.count [] c.lines.rest.now c.lines.draft c.in_default.ensures ∙ ap (λ bytes. Ok (reading g.D.TakeLines.count bytes c.lines.draft)) (sym c.in_ok-hold.ensures.ok)
