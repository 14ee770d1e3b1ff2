use Rattle.std.proofs.Common.{rules}
use Rattle.std.proofs.lemmas.Fn.{always_returns_same}
use Rattle.wi_cert.specs.declared.row.Row.{Row}
use Rattle.wi_check.proofs.Search.{row_found, row_missing}
use Rattle.wi_check.proofs.lists.row_to.Goals as goal

pub returns-in-Ok : goal.returns-in-Ok
returns-in-Ok c = row_found _ _ _ _ _ _ c.requires c.in-Ok.ensures.bound
    (c.in-Ok.ensures.position (λ (r : Row). (r.p, r.g, r.q)) (always_returns_same _ _ _ (λ a r f k. search rules))) c.index-rows-place.is

pub returns-in-Err : goal.returns-in-Err
returns-in-Err c = row_missing _ _ _ _ _ c.requires
    (c.in-Err.ensures.position (λ (r : Row). (r.p, r.g, r.q)) (always_returns_same _ _ _ (λ a r f k. search rules)))
