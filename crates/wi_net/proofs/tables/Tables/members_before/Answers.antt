use Rattle.std.proofs.Common.{◌≡◌, ◌∙◌, ap, sym, List, position}
use Rattle.wi_net.specs.declared.parts.TableRow.{TableRow}
use Rattle.wi_net.specs.Tables.{is_row, members_before, row_members}
use Rattle.wi_net.proofs.MemberLemmas.{row_start, row_within, before_none, position_missing}
use Rattle.wi_net.proofs.tables.Tables.members_before.Goals as goal

pub index-requires : goal.index-requires
index-requires c =
    let found = c.in-Some.ensures.value ∙ ap (λ (rows : List TableRow). position (is_row c.args.link c.args.label) rows) (sym c.self.view_is) in
    let within = row_within c.self.inside.rows.items c.self.inside.starts.items c.args.link c.args.label c.in-Some.i c.self.invariant.starts_are found in
    omega (Rattle.std.proofs.Common.arith, within, c.self.inside.starts.ok.0)

pub returns-in-Some : goal.returns-in-Some
returns-in-Some c =
    let found = c.in-Some.ensures.value ∙ ap (λ (rows : List TableRow). position (is_row c.args.link c.args.label) rows) (sym c.self.view_is) in
    row_start c.self.inside.rows.items c.self.inside.starts.items c.args.link c.args.label c.in-Some.i c.index.result.now c.self.invariant.starts_are found c.index.ensures ∙ ap (λ (rows : List TableRow). members_before rows c.args.link c.args.label) c.self.view_is

pub returns-in-None : goal.returns-in-None
returns-in-None c =
    c.self.invariant.members_are ∙ ap row_members c.self.view_is ∙ sym (before_none c.args.self.now c.args.link c.args.label (position_missing (is_row c.args.link c.args.label) c.args.self.now (sym c.in-None.ensures.value)))
