use Rattle.std.proofs.Common.{inl, refl}
use Rattle.wi_files.proofs.Causes.{err_as}
use Rattle.wi_ask.proofs.Exactly.{exact_known, shown_refused, shown_reported}
use Rattle.wi_ask.proofs.exact.stored.Goals as goal

pub stored_with-printed-requires-clause-run : goal.stored_with-printed-requires-clause-run
stored_with-printed-requires-clause-run g c = exact_known c.args.problem.now c.in_ok-answer.answer c.in_ok-answer.ensures.shown.exact.holds

pub stored_with-printed-requires-clause-tree : goal.stored_with-printed-requires-clause-tree
stored_with-printed-requires-clause-tree g c = c.in_ok-answer.ensures.shown.exact.made.writable

pub returns-in_err-answer-clause-refused : goal.returns-in_err-answer-clause-refused
returns-in_err-answer-clause-refused g c = err_as _ _ _ c.from_residual.ensures.1 (inl (c.in_err-answer.ensures.refused, refl))

pub returns-clause-reported : goal.returns-clause-reported
returns-clause-reported g c =
    shown_reported c.stored_with-printed.result c.args.problem.now _ (g.S.Shelf.seen c.stored_with-printed.new.shelf) c.in_ok-answer.answer c.in_ok-answer.tree
    c.in_ok-answer.ensures.shown c.stored_with-printed.ensures.status c.stored_with-printed.ensures.text c.stored_with-printed.ensures.kept

pub returns-clause-refused : goal.returns-clause-refused
returns-clause-refused g c =
    shown_refused c.stored_with-printed.result (g.S.Shelf.seen c.args.shelf.now) (g.S.Shelf.seen c.stored_with-printed.new.shelf) c.args.problem.now _ c.in_ok-answer.answer c.in_ok-answer.tree
    c.in_ok-answer.ensures.shown c.stored_with-printed.ensures.refused
