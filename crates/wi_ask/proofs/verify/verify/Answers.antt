use Rattle.std.proofs.Common.{inl, refl}
use Rattle.wi_files.proofs.Causes.{err_as}
use Rattle.wi_ask.proofs.Answers.{answer_known}
use Rattle.wi_ask.proofs.Deciding.{decided_refused, decided_reported}
use Rattle.wi_ask.proofs.verify.verify.Goals as goal

pub stored-printed-requires-clause-run : goal.stored-printed-requires-clause-run
stored-printed-requires-clause-run g c = answer_known c.args.problem.now c.in_ok-answer.answer c.in_ok-answer.ensures.certified.holds

pub stored-printed-requires-clause-certificate : goal.stored-printed-requires-clause-certificate
stored-printed-requires-clause-certificate g c = c.in_ok-answer.ensures.certified.is.made.writable

pub returns-in_err-answer-clause-refused : goal.returns-in_err-answer-clause-refused
returns-in_err-answer-clause-refused g c = err_as _ _ _ c.from_residual.ensures.1 (inl (c.in_err-answer.ensures.refused, refl))

pub returns-clause-reported : goal.returns-clause-reported
returns-clause-reported g c =
    decided_reported c.stored-printed.result c.args.content c.args.problem.now _ (g.S.Shelf.seen c.stored-printed.new.shelf) c.in_ok-answer.answer c.in_ok-answer.certificate
    c.in_ok-answer.ensures.certified c.stored-printed.ensures.status c.stored-printed.ensures.text c.stored-printed.ensures.kept

pub returns-clause-refused : goal.returns-clause-refused
returns-clause-refused g c =
    decided_refused c.stored-printed.result (g.S.Shelf.seen c.args.shelf.now) (g.S.Shelf.seen c.stored-printed.new.shelf) c.args.problem.now _ c.in_ok-answer.answer c.in_ok-answer.certificate
    c.in_ok-answer.ensures.certified c.stored-printed.ensures.refused
