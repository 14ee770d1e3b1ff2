use Rattle.std.proofs.Common.{rules}
-- The source comes first.
use Rattle.std.proofs.lemmas.Result.{err_from_is_err_and}
use Rattle.wi_query.proofs.Firsts.{first_before}
use Rattle.wi_query.proofs.names.ends_of.Goals as goal

pub returns-in_err-source-clause-refused : goal.returns-in_err-source-clause-refused
returns-in_err-source-clause-refused c =
    let p = err_from_is_err_and c.from_residual.result c.from_residual.ensures.1 in
    rw (p.1, p.2) (first_before _ _ _ c.in_err-source.ensures.refused)

pub returns-in_err-target-clause-refused : goal.returns-in_err-target-clause-refused
returns-in_err-target-clause-refused c = search rules
