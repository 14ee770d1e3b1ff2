use Rattle.std.proofs.Common.{◌≡◌, ◌∙◌, ◌+◌, ◌++◌, ◌∷◌, [], ap, None, position, List, ℕ, map}
use Rattle.wi_net.specs.declared.parts.TableRow.{TableRow}
use Rattle.wi_net.specs.Tables.{is_row, row_members, group_members}
use Rattle.wi_net.specs.private.Tables.{row_key}
use Rattle.wi_net.proofs.FindingLemmas.{pair_added}
use Rattle.wi_net.proofs.TableLemmas.{tables_added}
use Rattle.wi_net.proofs.tables.Tables.add.Goals as goal

pub invariant_of-self-2 : goal.invariant_of-self-2
invariant_of-self-2 c =
    let free : position (is_row c.args.row.link c.args.row.label) c.self.inside.rows.items ≡ None = rw c.self.view_is c.requires.free in
    let count : c.args.members ≡ row_members c.self.inside.rows.items + group_members c.args.row.groups = rw c.self.view_is c.requires.counted in
    let rows : c.push_reserved-2.new.self.items ≡ c.self.inside.rows.items ++ c.args.row ∷ [] = c.push_reserved-2.ensures.items ∙ ap (λ (xs : List TableRow). xs ++ c.args.row ∷ []) c.reserve.ensures.items in
    let starts : c.push_reserved.new.self.items ≡ c.self.inside.starts.items ++ c.self.inside.members ∷ [] = c.push_reserved.ensures.items ∙ ap (λ (xs : List ℕ). xs ++ c.self.inside.members ∷ []) c.reserve-2.ensures.items in
    tables_added c.self.inside.rows.items _ c.self.inside.keys.keys _ c.self.inside.starts.items _ c.self.inside.members c.args.members c.args.row c.self.invariant
    rows
    (pair_added row_key c.self.inside.keys.keys _ c.self.inside.rows.items c.args.row c.self.invariant.keys_are free c.in_ok-insert.ensures.keys ∙ ap (λ (xs : List TableRow). map row_key xs) (Rattle.std.proofs.Common.sym rows))
    starts count
