-- The keys by which rows are found, and where the members of a row begin.
use Rattle.std.specs.Prelude.{◌≡◌, ℕ, ◌+◌, List, [], ◌∷◌, map, nat_le}
use Rattle.std.specs.List.{prefix_len}
use Rattle.wi_net.specs.declared.parts.TableRow.{TableRow}
use Rattle.wi_net.specs.Tables.{group_members, row_members}

abbrev pub row_key : TableRow → ℕ × ℕ
row_key row = (row.link.0, row.label.0)

-- the number of the first member of each row, where so many stand before
abbrev pub starts_from : ℕ → List TableRow → List ℕ
starts_from n [] = []
starts_from n (row ∷ rows) = n ∷ starts_from (n + group_members row.groups) rows

-- how many rows begin with a member of no higher number
abbrev pub begun : ℕ → List ℕ → ℕ
begun number starts = prefix_len (λ start. nat_le start number) starts

-- the index has the rows' links and labels; the number of each row's first member is known, and how many members there are
pub record AreTables (rows : List TableRow) (keys : List (ℕ × ℕ)) (starts : List ℕ) (members : ℕ) : Type 0 where
  pub keys_are : keys ≡ map row_key rows
  pub starts_are : starts ≡ starts_from 0 rows
  pub members_are : members ≡ row_members rows
