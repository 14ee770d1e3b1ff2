use Rattle.std.proofs.Common.{◌∙◌, Ok, sym, ap}
use Rattle.serde_json.specs.View.{items_view}
use Rattle.wi_netjson.proofs.RowRules.{row_rules}
use Rattle.wi_netjson.proofs.tables.table.Goals as goal

pub row-requires-clause-rules : goal.row-requires-clause-rules
row-requires-clause-rules c =
    row_rules c.args.builder.now c.args.i c.in_ok-at.at.now c.in_ok-into.into.now c.in_ok-name.name.now c.in_ok-router.router c.in_ok-router.link c.in_ok-router.label c.member_count-so_far.result (items_view c.in_ok-values.values.now) c.of.result c.requires
    c.in_ok-router.ensures c.member_count-so_far.ensures.count (c.in_ok-groups.ensures.answer ∙ ap Ok (sym c.of.ensures))
