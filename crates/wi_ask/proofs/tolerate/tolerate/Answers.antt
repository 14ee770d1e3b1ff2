use Rattle.std.proofs.Common.{inl, refl}
use Rattle.wi_files.proofs.Causes.{err_as}
use Rattle.wi_ask.proofs.Tolerating.{told_with, trees_refused}
use Rattle.wi_ask.proofs.tolerate.tolerate.Goals as goal

pub returns-in_err-found-clause-refused : goal.returns-in_err-found-clause-refused
returns-in_err-found-clause-refused g c = err_as _ _ _ c.from_residual.ensures.1 (inl (c.in_err-found.ensures.refused, refl))

pub returns-clause-told_with : goal.returns-clause-told_with
returns-clause-told_with g c =
    told_with c.stored-printed.result c.args.problem.now c.args.most _ (g.S.Shelf.seen c.args.shelf.now) (g.S.Shelf.seen c.stored-printed.new.shelf) c.in_ok-found.found
    c.in_ok-found.ensures.found c.stored-printed.ensures.status c.stored-printed.ensures.text c.stored-printed.ensures.stored

pub returns-clause-refused : goal.returns-clause-refused
returns-clause-refused g c =
    trees_refused c.stored-printed.result c.args.most _ (g.S.Shelf.seen c.args.shelf.now) (g.S.Shelf.seen c.stored-printed.new.shelf) c.args.problem.now c.in_ok-found.found
    c.in_ok-found.ensures.found c.stored-printed.ensures.refused
