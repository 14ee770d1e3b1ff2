-- Ways around and rows, as the code holds and meets them.
use Rattle.std.specs.Prelude.{ℕ, List, [], ◌∷◌, Option, option_map}
use Rattle.std.specs.Borrow.{Bor}
use Rattle.wi_net.specs.declared.parts.LinkId.{LinkId}
use Rattle.wi_net.specs.declared.parts.TableRow.{TableRow}
use Rattle.wi_protect.specs.Rows.{Round, rows_from}

-- a way around that is held by reference
abbrev pub round_now : Option (Bor (List LinkId) × ℕ) → Option Round
round_now o = option_map (λ r. record { via = (r.0).now; first = r.1 }) o

-- the rows from a link of a path on, where the link is the first of the rest
abbrev pub rows_at : (LinkId → Option Round) → ℕ → List LinkId → List TableRow
rows_at rounds l [] = []
rows_at rounds l (e ∷ links) = rows_from rounds l e links
