use Rattle.std.proofs.Common.{◌≡◌, map, take, filter}
use Rattle.wi_decide.specs.private.Certificates.{is_below, row_by}
use Rattle.wi_decide.proofs.certificate.rows_below.Given as goal

abbrev pub invariant-loop-row : goal.invariant-loop-row
invariant-loop-row l = l.rows.items ≡ map (λ r. row_by l.terms r) (filter (λ r. is_below l.best r.weight) (take l.row-index l.row-items))
