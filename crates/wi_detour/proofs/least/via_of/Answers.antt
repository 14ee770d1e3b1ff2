use Rattle.std.proofs.Common.{◌∙◌, ap}
use Rattle.wi_detour.specs.private.Around.{spelled}
use Rattle.wi_detour.proofs.LeastLemmas.{told_none, told_some, none_around, found_around}
use Rattle.wi_detour.proofs.least.via_of.Goals as goal

pub returns-then-is_none-clause-none : goal.returns-then-is_none-clause-none
returns-then-is_none-clause-none c none =
    none_around c.args.ways.now c.keeps.ensures c.args.table.now c.requires (told_none _ _ _ c.best.ensures c.is_none.ensures c.if-is_none.true)

pub returns-clause-found : goal.returns-clause-found
returns-clause-found c =
    found_around c.args.ways.now c.keeps.ensures c.args.table.now c.in_ok-ids.ids.items _ c.requires (told_some _ _ _ c.best.ensures c.is_none.ensures c.if-is_none.false)
    (c.of.ensures ∙ c.in_ok-via.ensures ∙ ap (λ ids. spelled c.args.ways.now ids) c.as_slice.ensures.value)
    c.in_ok-ids.ensures
