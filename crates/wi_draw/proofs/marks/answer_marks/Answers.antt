use Rattle.wi_draw.proofs.marks.answer_marks.Goals as goal

pub mark-requires-clause-blank : goal.mark-requires-clause-blank
mark-requires-clause-blank c = c.no_marks-marks.ensures c.args.problem.now.net
