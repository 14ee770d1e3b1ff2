-- Going over the groups of a table.
use Rattle.std.proofs.Common.{◌≡◌, ℕ, ◌+◌, ◌<◌, List, [], ◌∷◌, ◌++◌, length, get_or, drop, take, map, Result, Ok, refl, sym, ap, ◌∙◌, add-one, arith}
use Rattle.std.proofs.Math.Seq.{drop-cons}
use Rattle.std.proofs.lemmas.List.{take_more}
use Rattle.wi_net.specs.declared.refused.BuildRefused.{BuildRefused}
use Rattle.wi_net.specs.declared.parts.RouterId.{RouterId}
use Rattle.wi_net.specs.declared.parts.Member.{Member}
use Rattle.wi_net.specs.declared.parts.TableRow.{TableRow}
use Rattle.wi_net.specs.private.Tables.{row_key, starts_from, AreTables}
use Rattle.wi_net.specs.Tables.{group_members, row_members}
use Rattle.wi_net.specs.Net.{Net}
use Rattle.wi_net.specs.Builder.{group_rules, groups_rules}

-- a group more has its members more, and a row more those of its groups
pub group_members_push : (gs : List (List Member)) (g : List Member) → group_members (gs ++ g ∷ []) ≡ group_members gs + length g
group_members_push [] g = omega arith
group_members_push (x ∷ xs) g = omega (arith, group_members_push xs g)

pub row_members_push : (rows : List TableRow) (row : TableRow) → row_members (rows ++ row ∷ []) ≡ row_members rows + group_members row.groups
row_members_push [] row = omega arith
row_members_push (x ∷ xs) row = omega (arith, row_members_push xs row)

pub starts_push : (n : ℕ) (rows : List TableRow) (row : TableRow) → starts_from n (rows ++ row ∷ []) ≡ starts_from n rows ++ (n + row_members rows) ∷ []
starts_push n [] row = ap (λ m. m ∷ []) (omega arith)
starts_push n (x ∷ rows) row = ap (λ ms. n ∷ ms) (starts_push (n + group_members x.groups) rows row ∙ ap (λ m. starts_from (n + group_members x.groups) rows ++ m ∷ []) (omega arith))

-- the rows with one more
pub tables_added : (rows after : List TableRow) (keys keys_after : List (ℕ × ℕ)) (starts starts_after : List ℕ) (members total : ℕ) (row : TableRow)
    → AreTables rows keys starts members → after ≡ rows ++ row ∷ [] → keys_after ≡ map row_key after → starts_after ≡ starts ++ members ∷ [] → total ≡ row_members rows + group_members row.groups → AreTables after keys_after starts_after total
tables_added rows after keys keys_after starts starts_after members total row t added keyed started count = record {
  keys_are = keyed;
  starts_are = started ∙ rw (t.starts_are, t.members_are, added) (sym (starts_push 0 rows row ∙ ap (λ m. starts_from 0 rows ++ m ∷ []) (omega arith)));
  members_are = count ∙ rw added (sym (row_members_push rows row));
}

pub groups_more : (n : Net) (router : RouterId) (m next : ℕ) (gs : List (List Member)) (i : ℕ) (g h : List Member) (total : Result ℕ BuildRefused) → i < length gs → g ≡ get_or gs i g → h ≡ g
    → group_rules n router m h ≡ Ok next → groups_rules n router m (drop i gs) ≡ total → groups_rules n router next (drop (i + 1) gs) ≡ total
groups_more n router m next gs i g h total lt is same one so_far =
    let here : group_rules n router m g ≡ Ok next = ap (group_rules n router m) (sym same) ∙ one in
    let whole : groups_rules n router m (drop i gs) ≡ groups_rules n router next (drop (i + 1) gs) = rw (add-one, drop-cons gs i g lt, ← is, here) refl in
    sym whole ∙ so_far

pub members_more : (gs : List (List Member)) (i : ℕ) (g h : List Member) (so_far m next : ℕ) → i < length gs → g ≡ get_or gs i g → h ≡ g → m ≡ so_far + group_members (take i gs) → next ≡ m + length h → next ≡ so_far + group_members (take (i + 1) gs)
members_more gs i g h so_far m next lt is same before after =
    let longer : take (i + 1) gs ≡ take i gs ++ g ∷ [] = take_more gs i g lt ∙ ap (λ x. take i gs ++ x ∷ []) (sym is) in
    let count : group_members (take (i + 1) gs) ≡ group_members (take i gs) + length g = ap group_members longer ∙ group_members_push (take i gs) g in
    omega (arith, count, ap length same)
