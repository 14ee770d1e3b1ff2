-- The names come first.
use Rattle.std.proofs.lemmas.Result.{err_from_is_err_and}
use Rattle.wi_query.proofs.Giving.{down_refused}
use Rattle.wi_query.proofs.given.given_of.Goals as goal

pub returns-in_err-down-clause-refused : goal.returns-in_err-down-clause-refused
returns-in_err-down-clause-refused c =
    let p = err_from_is_err_and c.from_residual.result c.from_residual.ensures.1 in
    rw (p.1, p.2) (down_refused c.args.net.now c.args.written.now _ c.requires c.in_err-down.ensures.refused)
