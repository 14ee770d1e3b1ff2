use Rattle.std.proofs.Common.{◌≡◌, drop}
use Rattle.std.specs.Prelude.{find}
use Rattle.wi_quantity.specs.Weighing.{components}
use Rattle.wi_accept.specs.Demands.{demands_at}
use Rattle.wi_check.specs.private.Rows.{summaries}
use Rattle.wi_check.proofs.RowLemmas.{is_open_in}
use Rattle.wi_check.proofs.rows.open_by_rules.Given as goal

abbrev pub invariant-loop-rule : goal.invariant-loop-rule
invariant-loop-rule l = find (is_open_in l.rows l.bound) (demands_at components (summaries l.rows) l.head.0 l.head.1 (drop l.rule-index l.rules))
    ≡ find (is_open_in l.rows l.bound) (demands_at components (summaries l.rows) l.head.0 l.head.1 l.rules)
