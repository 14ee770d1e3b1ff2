use Rattle.std.proofs.Common.{sym, ◌∙◌, refl}
use Rattle.wi_quantity.specs.Weighing.{components}
use Rattle.wi_accept.specs.Demands.{demands, demands_at}
use Rattle.wi_check.specs.private.Rows.{summaries}
use Rattle.wi_check.proofs.Parts.{part_found, part_none, is_some_mapped}
use Rattle.wi_check.proofs.RowLemmas.{is_open_in}
use Rattle.wi_check.proofs.rows.open_by_rules.Goals as goal

pub returns-then-is_some : goal.returns-then-is_some
returns-then-is_some c = part_found (is_open_in c.args.rows c.args.bound)
    (demands_at components (summaries c.args.rows) c.args.head.0 c.args.head.1) (λ r. demands (summaries c.args.rows) c.args.head.0 c.args.head.1 (components r.weight) r.to r.word) (λ r rs. refl)
    c.args.rules.now c.loop-rule.rule-index _ _ _ _ c.loop-rule-test.true refl c.open_by_rule-found.ensures c.loop-rule.invariant (is_some_mapped _ _ _ (sym c.is_some.ensures ∙ c.if-is_some.true))

pub loop-rule-preserved : goal.loop-rule-preserved
loop-rule-preserved c = part_none (is_open_in c.args.rows c.args.bound)
    (demands_at components (summaries c.args.rows) c.args.head.0 c.args.head.1) (λ r. demands (summaries c.args.rows) c.args.head.0 c.args.head.1 (components r.weight) r.to r.word) (λ r rs. refl)
    c.args.rules.now c.loop-rule.rule-index _ _ _ _ c.loop-rule-test.true refl c.open_by_rule-found.ensures c.loop-rule.invariant (is_some_mapped _ _ _ (sym c.is_some.ensures ∙ c.if-is_some.false))
