-- Rows of tables, and the members in them.
use Rattle.std.specs.Prelude.{ℕ, ◌+◌, ◌&&◌, ◌==◌, Bool, true, List, [], ◌∷◌, ◌++◌, length, position, is_none, if◌then◌else◌}
use Rattle.wi_labels.specs.declared.label.Label.{Label}
use Rattle.wi_net.specs.declared.parts.TableRow.{TableRow}
use Rattle.wi_net.specs.declared.parts.Member.{Member}
use Rattle.wi_net.specs.declared.parts.LinkId.{LinkId}

-- a row is that of a link and a label
abbrev pub is_row : LinkId → Label → TableRow → Bool
is_row e l row = (e.0 == row.link.0) && (l.0 == row.label.0)

-- no two rows are of one link and one label
abbrev pub are_rows_apart : List TableRow → Bool
are_rows_apart [] = true
are_rows_apart (row ∷ rows) = is_none (position (is_row row.link row.label) rows) && are_rows_apart rows

-- what the rows say of a link and a label
abbrev pub groups_in : List TableRow → LinkId → Label → List (List Member)
groups_in [] e l = []
groups_in (row ∷ rows) e l = if is_row e l row then row.groups else groups_in rows e l

-- the members of groups, one group after the other, and of rows
abbrev pub members_of : List (List Member) → List Member
members_of [] = []
members_of (g ∷ gs) = g ++ members_of gs

abbrev pub all_members : List TableRow → List Member
all_members [] = []
all_members (row ∷ rows) = members_of row.groups ++ all_members rows

-- how many members groups have, and rows
abbrev pub group_members : List (List Member) → ℕ
group_members [] = 0
group_members (g ∷ gs) = length g + group_members gs

abbrev pub row_members : List TableRow → ℕ
row_members [] = 0
row_members (row ∷ rows) = group_members row.groups + row_members rows

-- how many members the rows before that of a link and a label have
abbrev pub members_before : List TableRow → LinkId → Label → ℕ
members_before [] e l = 0
members_before (row ∷ rows) e l = if is_row e l row then 0 else group_members row.groups + members_before rows e l
