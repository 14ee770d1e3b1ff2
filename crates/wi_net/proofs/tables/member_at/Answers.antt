use Rattle.std.proofs.Common.{◌≡◌, ◌∙◌, ◌<◌, ◌-◌, ap, sym, subst, List, [], ◌∷◌, ℕ, zero, suc, nat_le, length, slice_get, get_or, Some, arith, rules}
use Rattle.std.specs.List.Sorted.{IsPartitionedBy}
use Rattle.wi_net.specs.declared.parts.TableRow.{TableRow}
use Rattle.wi_net.specs.declared.parts.Member.{Member}
use Rattle.wi_net.specs.Tables.{row_members, members_of, all_members, group_members}
use Rattle.wi_net.specs.private.Tables.{starts_from, begun}
use Rattle.std.proofs.lemmas.Option.{slice_get_within}
use Rattle.wi_net.proofs.MemberLemmas.{Located, located, starts_parted, get_or_some, starts_count}
use Rattle.wi_net.proofs.tables.member_at.Goals as goal

-- where the number falls
found : (rows : List TableRow) (starts : List ℕ) (number after : ℕ) → starts ≡ starts_from 0 rows → number < row_members rows → after ≡ begun number starts → Located rows 0 number after
found rows starts number after known within is =
    let P : ℕ → Type 0 = λ a. Located rows 0 number a in
    subst P (sym (is ∙ ap (begun number) known)) (located rows 0 number (omega arith) (omega (arith, within)))

-- what stands at the place before
row_at : (rows : List TableRow) (number after : ℕ) (at : Located rows 0 number after) → slice_get rows (after - 1) ≡ Some at.row
row_at rows number after at = ap (λ k. slice_get rows k) (omega (arith, at.place_is)) ∙ at.row_is

read_at : (xs : List ℕ) (i x : ℕ) → slice_get xs i ≡ Some x → get_or xs i 0 ≡ x
read_at [] i x e = cc
read_at (y ∷ xs) zero x e = cc
read_at (y ∷ xs) (suc i) x e = read_at xs i x e

start_at : (rows : List TableRow) (starts : List ℕ) (number after : ℕ) (at : Located rows 0 number after) → starts ≡ starts_from 0 rows → get_or starts (after - 1) 0 ≡ at.start
start_at rows starts number after at known = read_at starts (after - 1) at.start (ap (λ ss. slice_get ss (after - 1)) known ∙ ap (λ k. slice_get (starts_from 0 rows) k) (omega (arith, at.place_is)) ∙ at.start_is)

pub begun-place-requires : goal.begun-place-requires
begun-place-requires c =
    let P : List ℕ → Type 0 = λ starts. IsPartitionedBy (λ (s : ℕ). nat_le s c.args.number) starts in
    subst P (sym c.requires.known) (starts_parted c.args.number 0 c.args.rows.now)

pub overflow_sub-place : goal.overflow_sub-place
overflow_sub-place c =
    let at = found c.args.rows.now c.args.starts.now c.args.number c.begun-place.result c.requires.known c.requires.within c.begun-place.ensures in
    omega (arith, at.place_is)

pub bounds-rows-place : goal.bounds-rows-place
bounds-rows-place c =
    let at = found c.args.rows.now c.args.starts.now c.args.number c.begun-place.result c.requires.known c.requires.within c.begun-place.ensures in
    slice_get_within c.args.rows.now (c.begun-place.result - 1) at.row (row_at c.args.rows.now c.args.number c.begun-place.result at)

pub offset_bounds-rows-place : goal.offset_bounds-rows-place
offset_bounds-rows-place c =
    let at = found c.args.rows.now c.args.starts.now c.args.number c.begun-place.result c.requires.known c.requires.within c.begun-place.ensures in
    let within : c.begun-place.result - 1 < length c.args.rows.now = slice_get_within c.args.rows.now (c.begun-place.result - 1) at.row (row_at c.args.rows.now c.args.number c.begun-place.result at) in
    search rules

pub bounds-starts-place : goal.bounds-starts-place
bounds-starts-place c =
    let at = found c.args.rows.now c.args.starts.now c.args.number c.begun-place.result c.requires.known c.requires.within c.begun-place.ensures in
    let within : c.begun-place.result - 1 < length c.args.rows.now = slice_get_within c.args.rows.now (c.begun-place.result - 1) at.row (row_at c.args.rows.now c.args.number c.begun-place.result at) in
    omega (arith, ap length c.requires.known, starts_count 0 c.args.rows.now, within)

pub offset_bounds-starts-place : goal.offset_bounds-starts-place
offset_bounds-starts-place c =
    let at = found c.args.rows.now c.args.starts.now c.args.number c.begun-place.result c.requires.known c.requires.within c.begun-place.ensures in
    let within : c.begun-place.result - 1 < length c.args.rows.now = slice_get_within c.args.rows.now (c.begun-place.result - 1) at.row (row_at c.args.rows.now c.args.number c.begun-place.result at) in
    let in_starts : c.begun-place.result - 1 < length c.args.starts.now = omega (arith, ap length c.requires.known, starts_count 0 c.args.rows.now, within) in
    search rules

pub overflow_sub-number : goal.overflow_sub-number
overflow_sub-number c =
    let at = found c.args.rows.now c.args.starts.now c.args.number c.begun-place.result c.requires.known c.requires.within c.begun-place.ensures in
    omega (arith, start_at c.args.rows.now c.args.starts.now c.args.number c.begun-place.result at c.requires.known, at.low)

-- the groups of the row that is read
groups_at : (rows : List TableRow) (number after : ℕ) (at : Located rows 0 number after) (row : TableRow) (groups : List (List Member)) → row ≡ get_or rows (after - 1) row → groups ≡ (get_or rows (after - 1) row).groups → groups ≡ at.row.groups
groups_at rows number after at row groups is same = same ∙ ap (λ (r : TableRow). r.groups) (sym is ∙ get_or_some rows (after - 1) at.row row (row_at rows number after at) is)

pub member_in-requires : goal.member_in-requires
member_in-requires c =
    let at = found c.args.rows.now c.args.starts.now c.args.number c.begun-place.result c.requires.known c.requires.within c.begun-place.ensures in
    let groups = groups_at c.args.rows.now c.args.number c.begun-place.result at c.index-rows-place.result c.as_slice.result.now c.index-rows-place.is c.as_slice.ensures in
    omega (arith, start_at c.args.rows.now c.args.starts.now c.args.number c.begun-place.result at c.requires.known, at.low, at.high, ap group_members groups)

pub returns : goal.returns
returns c =
    let at = found c.args.rows.now c.args.starts.now c.args.number c.begun-place.result c.requires.known c.requires.within c.begun-place.ensures in
    let groups = groups_at c.args.rows.now c.args.number c.begun-place.result at c.index-rows-place.result c.as_slice.result.now c.index-rows-place.is c.as_slice.ensures in
    let start = start_at c.args.rows.now c.args.starts.now c.args.number c.begun-place.result at c.requires.known in
    let whole : c.args.number ≡ c.args.number - 0 = omega arith in
    ap (λ n. slice_get (all_members c.args.rows.now) n) whole ∙ at.same ∙ ap (λ (gs : List (List Member)). slice_get (members_of gs) (c.args.number - at.start)) (sym groups) ∙ ap (λ n. slice_get (members_of c.as_slice.result.now) (c.args.number - n)) (sym start) ∙ c.member_in.ensures
