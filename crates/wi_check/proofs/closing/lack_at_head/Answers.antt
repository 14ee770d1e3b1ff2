use Rattle.std.proofs.Common.{None, IfOk, option_map, subst, ◌∙◌}
use Rattle.std.specs.Prelude.{◌≡◌, find}
use Rattle.std.specs.Option.{option_or}
use Rattle.wi_quantity.specs.Weighing.{components}
use Rattle.wi_accept.specs.Demands.{demands_at}
use Rattle.wi_check.specs.private.Rows.{summaries, demanded}
use Rattle.wi_check.proofs.RowLemmas.{rules_small, is_open_in}
use Rattle.wi_check.proofs.closing.lack_at_head.Goals as goal

pub lack_by_rules-lack-requires-clause-small : goal.lack_by_rules-lack-requires-clause-small
lack_by_rules-lack-requires-clause-small c =
    rules_small c.args.system.now c.keeps.ensures.problem c.keeps.ensures.vector c.args.head.0 c.args.head.1 _ (c.as_slice.ensures.value ∙ c.in_ok-rules.ensures)

pub returns-clause-demand : goal.returns-clause-demand
returns-clause-demand c =
    subst (λ rules. IfOk c.lack_by_rules-lack.result (λ lack. lack.follower ≡ None → option_map demanded lack.demand
    ≡ option_or (option_map demanded c.args.before) (find (is_open_in c.args.rows c.args.bound) (demands_at components (summaries c.args.rows) c.args.head.0 c.args.head.1 rules))))
    (c.as_slice.ensures.value ∙ c.in_ok-rules.ensures) c.lack_by_rules-lack.ensures.demand
