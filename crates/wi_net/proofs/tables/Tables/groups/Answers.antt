use Rattle.std.proofs.Common.{◌∙◌, ap, sym, List, position}
use Rattle.wi_net.specs.declared.parts.TableRow.{TableRow}
use Rattle.wi_net.specs.Tables.{is_row, groups_in}
use Rattle.wi_net.proofs.MemberLemmas.{row_groups, groups_none, position_missing}
use Rattle.wi_net.proofs.tables.Tables.groups.Goals as goal

pub returns-in-Some : goal.returns-in-Some
returns-in-Some c =
    let found = c.in-Some.ensures.value ∙ ap (λ (rows : List TableRow). position (is_row c.args.link c.args.label) rows) (sym c.self.view_is) in
    c.as_slice.ensures ∙ row_groups c.self.inside.rows.items c.args.link c.args.label c.in-Some.i c.index.result.now found c.index.ensures ∙ ap (λ (rows : List TableRow). groups_in rows c.args.link c.args.label) c.self.view_is

pub returns-in-None : goal.returns-in-None
returns-in-None c = sym (groups_none c.args.self.now c.args.link c.args.label (position_missing (is_row c.args.link c.args.label) c.args.self.now (sym c.in-None.ensures.value)))
