use Rattle.std.proofs.Common.{sym, ap, ◌∙◌}
use Rattle.std.specs.Prelude.{find}
use Rattle.wi_quantity.specs.Weighing.{components}
use Rattle.wi_accept.specs.Demands.{demands}
use Rattle.wi_check.specs.private.Rows.{summaries}
use Rattle.wi_check.proofs.RowLemmas.{is_open_in, own_terms, by_one, by_two}
use Rattle.wi_check.proofs.OwnRows.{own_demand, own_after, terms_of_own}
use Rattle.wi_check.proofs.rows.open_by_rule.Goals as goal

pub open_after-requires-clause-parts : goal.open_after-requires-clause-parts
open_after-requires-clause-parts c = terms_of_own c.args.rows c.args.own c.args.head c.args.bound c.requires.own _ (own_terms c.args.rows.terms c.args.rule.to c.in-One.u c.args.rows.rows.now _ c.rows_at-parts.ensures c.requires.rows.terms)

pub open_after_two-requires-clause-parts : goal.open_after_two-requires-clause-parts
open_after_two-requires-clause-parts c = own_terms c.args.rows.terms c.args.rule.to c.in-Two.u c.args.rows.rows.now _ c.rows_at-parts-in-Two.ensures c.requires.rows.terms

pub returns-in-Empty : goal.returns-in-Empty
returns-in-Empty c = c.open_demand.ensures ∙ own_demand c.args.rows c.args.own c.args.head c.args.bound c.requires.own c.args.rule.to (components c.args.rule.weight)
    ∙ ap (λ word. find (is_open_in c.args.rows c.args.bound) (demands (summaries c.args.rows) c.args.head.0 c.args.head.1 (components c.args.rule.weight) c.args.rule.to word)) (sym c.in-Empty.is)

pub returns-in-One : goal.returns-in-One
returns-in-One c = c.open_after.ensures ∙ own_after c.args.rows c.args.own c.args.head c.args.bound c.requires.own (components c.args.rule.weight) _
    ∙ ap (find (is_open_in c.args.rows c.args.bound)) (by_one c.args.rows.terms c.args.rule.to c.in-One.u c.args.rows.rows.now _ c.args.head (components c.args.rule.weight) _ c.in-One.is c.rows_at-parts.ensures)

pub returns-in-Two : goal.returns-in-Two
returns-in-Two c = c.open_after_two.ensures
    ∙ ap (find (is_open_in c.args.rows c.args.bound)) (by_two c.args.rows.terms c.args.rule.to c.in-Two.u c.in-Two.v c.args.rows.rows.now _ c.args.head (components c.args.rule.weight) _ c.in-Two.is c.rows_at-parts-in-Two.ensures)
