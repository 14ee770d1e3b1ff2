-- Rows of a certificate as summaries.
use Rattle.std.specs.Prelude.{◌≡◌, ℕ, ◌+◌, ◌≤◌, List, filter, length}
use Rattle.std.specs.List.{All}
use Rattle.wi_pds.specs.Closed.{Summary}
use Rattle.wi_quantity.specs.Weighing.{components}
use Rattle.wi_cert.specs.declared.row.Row.{Row}
use Rattle.wi_cert.specs.Order.{row_below}
use Rattle.wi_accept.specs.Causes.{rows_of}
use Rattle.wi_accept.specs.Demands.{row}
use Rattle.wi_check.specs.declared.rows.Rows.{Rows}
use Rattle.wi_check.specs.declared.rows.Demand.{Demand}
use Rattle.wi_check.specs.private.Lists.{Rises, is_row_of}

-- each row's weight has so many terms and the effort
abbrev pub HaveTerms : ℕ → List Row → Type 0
HaveTerms terms rows = All (λ r. length r.weight ≡ terms + 1) rows

-- rows in rising order, each with so many terms
pub record AreRows (rows : Rows) : Type 0 where
  pub few : rows.terms ≤ 5
  pub terms : HaveTerms rows.terms rows.rows.now
  pub rise : Rises row_below rows.rows.now

-- the rows of a head, in rising order
pub record AreOwn (rows : Rows) (head : ℕ × ℕ) (own : Rows) : Type 0 where
  pub terms : own.terms ≡ rows.terms
  pub of_head : own.rows.now ≡ filter (is_row_of head.0 head.1) rows.rows.now
  pub are_rows : AreRows own

abbrev pub summaries : Rows → List Summary
summaries rows = rows_of rows.terms rows.rows.now

-- the row that is demanded
abbrev pub demanded : Demand → Summary
demanded d = row d.head.0 d.head.1 d.target (components d.weight)
