-- Rows by their place, and members by their number.
use Rattle.std.proofs.Common.{◌≡◌, ℕ, zero, suc, ◌+◌, ◌-◌, ◌<◌, ◌≤◌, Bool, true, false, not, nat_lt, nat_le, List, [], ◌∷◌, ◌++◌, length, drop, get_or, slice_get, position, Some, None, refl, sym, ap, ◌∙◌, arith, add-one, one-add, length-append}
use Rattle.std.proofs.Math.Seq.{drop-cons}
use Rattle.std.specs.List.{prefix_len, position_or_len, AllWithin}
use Rattle.std.specs.List.Sorted.{IsPartitionedBy}
use Rattle.std.proofs.lemmas.Bool.{ltb-true, ltb-false, leb-true, le-leb}
use Rattle.std.proofs.lemmas.Bool.Decides.{nat_tests}
use Rattle.wi_labels.specs.declared.label.Label.{Label}
use Rattle.wi_net.specs.declared.parts.LinkId.{LinkId}
use Rattle.wi_net.specs.declared.parts.Member.{Member}
use Rattle.wi_net.specs.declared.parts.TableRow.{TableRow}
use Rattle.wi_net.specs.Tables.{is_row, groups_in, members_of, all_members, group_members, row_members, members_before}
use Rattle.wi_net.specs.private.Tables.{starts_from, begun}

-- the first place that passes
pub position_found : {X : Type 0} (p : X → Bool) (xs : List X) (i : ℕ) → position p xs ≡ Some i → (i ≡ prefix_len (λ x. not (p x)) xs) × (i < length xs)
position_found p xs i e = go (nat_lt (position_or_len p xs) (length xs)) refl
  where
    go : (b : Bool) → nat_lt (position_or_len p xs) (length xs) ≡ b → (i ≡ prefix_len (λ x. not (p x)) xs) × (i < length xs)
    go true b =
        let same : Some (position_or_len p xs) ≡ Some i = rw b at e in
        let at : position_or_len p xs ≡ i = cc in
        let less = ltb-true (position_or_len p xs) (length xs) b in
        (sym at, omega (arith, at, less))
    go false b = let none : None ≡ Some i = rw b at e in cc

pub position_missing : {X : Type 0} (p : X → Bool) (xs : List X) → position p xs ≡ None → length xs ≤ prefix_len (λ x. not (p x)) xs
position_missing p xs e = go (nat_lt (position_or_len p xs) (length xs)) refl
  where
    go : (b : Bool) → nat_lt (position_or_len p xs) (length xs) ≡ b → length xs ≤ prefix_len (λ x. not (p x)) xs
    go true b = let some : Some (position_or_len p xs) ≡ None = rw b at e in cc
    go false b = ltb-false (position_or_len p xs) (length xs) b

-- how many rows stand before that of a link and a label
abbrev pub place_of : List TableRow → LinkId → Label → ℕ
place_of rows e l = prefix_len (λ row. not (is_row e l row)) rows

pub groups_here : (rows : List TableRow) (e : LinkId) (l : Label) (row : TableRow) → slice_get rows (place_of rows e l) ≡ Some row → row.groups ≡ groups_in rows e l
groups_here [] e l row h = cc
groups_here (x ∷ rows) e l row h = go (is_row e l x) refl (groups_here rows e l row)
  where
    go : (b : Bool) → is_row e l x ≡ b → (slice_get rows (place_of rows e l) ≡ Some row → row.groups ≡ groups_in rows e l) → row.groups ≡ groups_in (x ∷ rows) e l
    go true b ih = let same : Some x ≡ Some row = rw b at h in let is : x ≡ row = cc in rw (b, is) refl
    go false b ih = let later : slice_get (x ∷ rows) (1 + place_of rows e l) ≡ Some row = rw b at h in rw b (ih (rw one-add at later))

pub groups_none : (rows : List TableRow) (e : LinkId) (l : Label) → length rows ≤ place_of rows e l → groups_in rows e l ≡ []
groups_none [] e l h = refl
groups_none (x ∷ rows) e l h = go (is_row e l x) refl (groups_none rows e l)
  where
    go : (b : Bool) → is_row e l x ≡ b → (length rows ≤ place_of rows e l → groups_in rows e l ≡ []) → groups_in (x ∷ rows) e l ≡ []
    go true b ih = let less : suc (length rows) ≤ 0 = rw b at h in absurd (omega (arith, less))
    go false b ih = let less : suc (length rows) ≤ 1 + place_of rows e l = rw b at h in rw b (ih (omega (arith, less)))

pub starts_count : (n : ℕ) (rows : List TableRow) → length (starts_from n rows) ≡ length rows
starts_count n [] = refl
starts_count n (row ∷ rows) = ap suc (starts_count (n + group_members row.groups) rows)

pub starts_here : (rows : List TableRow) (n : ℕ) (e : LinkId) (l : Label) → place_of rows e l < length rows → slice_get (starts_from n rows) (place_of rows e l) ≡ Some (n + members_before rows e l)
starts_here [] n e l h = absurd (omega arith)
starts_here (x ∷ rows) n e l h = go (is_row e l x) refl (starts_here rows (n + group_members x.groups) e l)
  where
    go : (b : Bool) → is_row e l x ≡ b → (place_of rows e l < length rows → slice_get (starts_from (n + group_members x.groups) rows) (place_of rows e l) ≡ Some (n + group_members x.groups + members_before rows e l))
        → slice_get (starts_from n (x ∷ rows)) (place_of (x ∷ rows) e l) ≡ Some (n + members_before (x ∷ rows) e l)
    go true b ih = rw b (ap Some (omega arith))
    go false b ih =
        let less : 1 + place_of rows e l < suc (length rows) = rw b at h in
        rw (b, one-add) (ih (omega (arith, less)) ∙ ap Some (omega arith))

pub before_none : (rows : List TableRow) (e : LinkId) (l : Label) → length rows ≤ place_of rows e l → members_before rows e l ≡ row_members rows
before_none [] e l h = refl
before_none (x ∷ rows) e l h = go (is_row e l x) refl (before_none rows e l)
  where
    go : (b : Bool) → is_row e l x ≡ b → (length rows ≤ place_of rows e l → members_before rows e l ≡ row_members rows) → members_before (x ∷ rows) e l ≡ row_members (x ∷ rows)
    go true b ih = let less : suc (length rows) ≤ 0 = rw b at h in absurd (omega (arith, less))
    go false b ih = let less : suc (length rows) ≤ 1 + place_of rows e l = rw b at h in rw b (ap (λ n. group_members x.groups + n) (ih (omega (arith, less))))

-- reading in two lists one after the other
pub get_front : {X : Type 0} (xs ys : List X) (i : ℕ) → i < length xs → slice_get (xs ++ ys) i ≡ slice_get xs i
get_front [] ys i h = absurd (omega arith)
get_front (x ∷ xs) ys zero h = refl
get_front (x ∷ xs) ys (suc i) h = get_front xs ys i (omega arith)

pub get_back : {X : Type 0} (xs ys : List X) (i j : ℕ) → length xs + j ≡ i → slice_get (xs ++ ys) i ≡ slice_get ys j
get_back [] ys i j h = ap (λ k. slice_get ys k) (omega arith)
get_back (x ∷ xs) ys zero j h = absurd (omega arith)
get_back (x ∷ xs) ys (suc i) j h = get_back xs ys i j (omega arith)

pub members_count : (gs : List (List Member)) → length (members_of gs) ≡ group_members gs
members_count [] = refl
members_count (g ∷ gs) = length-append g (members_of gs) ∙ ap (λ n. length g + n) (members_count gs)

-- a member of the group where the count has come
pub member_here : (gs : List (List Member)) (i left : ℕ) (g h : List Member) (m : Member) → i < length gs → g ≡ get_or gs i g → h ≡ g → left < length h → slice_get h left ≡ Some m → slice_get (members_of (drop i gs)) left ≡ Some m
member_here gs i left g h m lt is same within found =
    let inside : left < length g = omega (arith, ap length same) in
    let one : slice_get g left ≡ Some m = ap (λ (x : List Member). slice_get x left) (sym same) ∙ found in
    rw (drop-cons gs i g lt, ← is) (get_front g (members_of (drop (suc i) gs)) left inside ∙ one)

-- a member of a later group
pub member_later : (gs : List (List Member)) (i left rest : ℕ) (g h : List Member) → i < length gs → g ≡ get_or gs i g → h ≡ g → length h + rest ≡ left → slice_get (members_of (drop i gs)) left ≡ slice_get (members_of (drop (i + 1) gs)) rest
member_later gs i left rest g h lt is same count =
    rw (drop-cons gs i g lt, ← is, add-one) (get_back g (members_of (drop (suc i) gs)) left rest (omega (arith, ap length same)))

pub members_left : (gs : List (List Member)) (i : ℕ) (g h : List Member) → i < length gs → g ≡ get_or gs i g → h ≡ g → group_members (drop i gs) ≡ length h + group_members (drop (i + 1) gs)
members_left gs i g h lt is same = rw (drop-cons gs i g lt, ← is, add-one, same) refl

-- where a member's number falls among the rows
pub record Located (rows : List TableRow) (n m a : ℕ) : Type 0 where
  pub place : ℕ
  pub place_is : place + 1 ≡ a
  pub row : TableRow
  pub row_is : slice_get rows place ≡ Some row
  pub start : ℕ
  pub start_is : slice_get (starts_from n rows) place ≡ Some start
  pub low : start ≤ m
  pub high : m < start + group_members row.groups
  pub same : slice_get (all_members rows) (m - n) ≡ slice_get (members_of row.groups) (m - start)

begun_none : (rows : List TableRow) (k m : ℕ) → m < k → begun m (starts_from k rows) ≡ 0
begun_none [] k m lt = refl
begun_none (row ∷ rows) k m lt = let no_le : nat_le k m ≡ false = grind (arith, nat_tests) in rw no_le refl

pub located : (rows : List TableRow) (n m : ℕ) → n ≤ m → m < n + row_members rows → Located rows n m (begun m (starts_from n rows))
located [] n m low high = absurd (omega arith)
located (row ∷ rows) n m low high = go (nat_lt m (n + group_members row.groups)) refl (λ le. located rows (n + group_members row.groups) m le (omega arith))
  where
    first : nat_le n m ≡ true
    first = le-leb n m low

    go : (b : Bool) → nat_lt m (n + group_members row.groups) ≡ b → (n + group_members row.groups ≤ m → Located rows (n + group_members row.groups) m (begun m (starts_from (n + group_members row.groups) rows)))
        → Located (row ∷ rows) n m (begun m (starts_from n (row ∷ rows)))
    go true b ih =
        let less : m < n + group_members row.groups = ltb-true m (n + group_members row.groups) b in
        let none : begun m (starts_from (n + group_members row.groups) rows) ≡ 0 = begun_none rows (n + group_members row.groups) m less in
        rw (first, none) (record {
          place = 0;
          place_is = omega arith;
          row = row;
          row_is = refl;
          start = n;
          start_is = refl;
          low = low;
          high = less;
          same = get_front (members_of row.groups) (all_members rows) (m - n) (omega (arith, members_count row.groups));
        })
    go false b ih = rw first (later (begun m (starts_from (n + group_members row.groups) rows)) (ih (ltb-false m (n + group_members row.groups) b)))
      where
        later : (a : ℕ) → Located rows (n + group_members row.groups) m a → Located (row ∷ rows) n m (1 + a)
        later a found = record {
          place = suc found.place;
          place_is = omega (arith, found.place_is);
          row = found.row;
          row_is = found.row_is;
          start = found.start;
          start_is = found.start_is;
          low = found.low;
          high = found.high;
          same = get_back (members_of row.groups) (all_members rows) (m - n) (m - (n + group_members row.groups)) (omega (arith, members_count row.groups, ltb-false m (n + group_members row.groups) b)) ∙ found.same;
        }

-- rows begin in rising order
starts_above : (rows : List TableRow) (k i d : ℕ) → i < length (starts_from k rows) → k ≤ get_or (starts_from k rows) i d
starts_above [] k i d lt = absurd (omega arith)
starts_above (row ∷ rows) k zero d lt = omega arith
starts_above (row ∷ rows) k (suc i) d lt = let ih = starts_above rows (k + group_members row.groups) i d (omega arith) in omega (arith, ih)

pub starts_parted : (m k : ℕ) (rows : List TableRow) → IsPartitionedBy (λ s. nat_le s m) (starts_from k rows)
starts_parted m k [] i j d le lt b = absurd (omega (arith, lt))
starts_parted m k (row ∷ rows) zero zero d le lt b = b
starts_parted m k (row ∷ rows) zero (suc j) d le lt b =
    let above = starts_above rows (k + group_members row.groups) j d (omega (arith, lt)) in
    let low = leb-true (get_or (starts_from (k + group_members row.groups) rows) j d) m b in
    le-leb k m (omega (arith, above, low))
starts_parted m k (row ∷ rows) (suc i) zero d le lt b = absurd (omega (arith, le))
starts_parted m k (row ∷ rows) (suc i) (suc j) d le lt b = starts_parted m (k + group_members row.groups) rows i j d (omega (arith, le)) (omega (arith, lt)) b

-- the place where a test stops passing
pub prefix_is : (p : ℕ → Bool) (xs : List ℕ) (k : ℕ) → k ≤ length xs → AllWithin (λ x. p x ≡ true) xs 0 k → AllWithin (λ x. p x ≡ false) xs k (length xs) → prefix_len p xs ≡ k
prefix_is p [] k h passing failing = omega (arith, h)
prefix_is p (x ∷ xs) zero h passing failing = let e : p x ≡ false = failing 0 x (omega arith) (omega arith) in rw e refl
prefix_is p (x ∷ xs) (suc k) h passing failing =
    let e : p x ≡ true = passing 0 x (omega arith) (omega arith) in
    let ih = prefix_is p xs k (omega (arith, h)) (λ i d lo hi. passing (suc i) d (omega arith) (omega (arith, hi))) (λ i d lo hi. failing (suc i) d (omega (arith, lo)) (omega (arith, hi))) in
    rw e (omega (arith, ih))

-- what reading at a place gives
pub get_read : {X : Type 0} (xs : List X) (i : ℕ) (x : X) → i < length xs → x ≡ get_or xs i x → slice_get xs i ≡ Some x
get_read [] i x lt is = absurd (omega arith)
get_read (y ∷ xs) zero x lt is = ap Some (sym is)
get_read (y ∷ xs) (suc i) x lt is = get_read xs i x (omega arith) is

-- reading by place what stands there
pub get_or_some : {X : Type 0} (xs : List X) (i : ℕ) (x y : X) → slice_get xs i ≡ Some x → y ≡ get_or xs i y → y ≡ x
get_or_some [] i x y e is = cc
get_or_some (z ∷ xs) zero x y e is = is ∙ (let same : z ≡ x = cc in same)
get_or_some (z ∷ xs) (suc i) x y e is = get_or_some xs i x y e is

pub row_groups : (rows : List TableRow) (e : LinkId) (l : Label) (i : ℕ) (row : TableRow) → Some i ≡ position (is_row e l) rows → row ≡ get_or rows i row → row.groups ≡ groups_in rows e l
row_groups rows e l i row found is =
    let at = position_found (is_row e l) rows i (sym found) in
    groups_here rows e l row (ap (λ k. slice_get rows k) (sym at.0) ∙ get_read rows i row at.1 is)

pub row_start : (rows : List TableRow) (starts : List ℕ) (e : LinkId) (l : Label) (i s : ℕ) → starts ≡ starts_from 0 rows → Some i ≡ position (is_row e l) rows → s ≡ get_or starts i s → s ≡ members_before rows e l
row_start rows starts e l i s known found is =
    let at = position_found (is_row e l) rows i (sym found) in
    let there : slice_get starts i ≡ Some (0 + members_before rows e l) = ap (λ ss. slice_get ss i) known ∙ ap (λ k. slice_get (starts_from 0 rows) k) at.0 ∙ starts_here rows 0 e l (omega (arith, at.0, at.1)) in
    get_or_some starts i (0 + members_before rows e l) s there is ∙ omega arith

-- the place of a row is one in the list of first members
pub row_within : (rows : List TableRow) (starts : List ℕ) (e : LinkId) (l : Label) (i : ℕ) → starts ≡ starts_from 0 rows → Some i ≡ position (is_row e l) rows → i < length starts
row_within rows starts e l i known found =
    let at = position_found (is_row e l) rows i (sym found) in
    omega (arith, at.1, ap length known, starts_count 0 rows)

-- no more members stand before a row than there are
pub before_most : (rows : List TableRow) (e : LinkId) (l : Label) → members_before rows e l ≤ row_members rows
before_most [] e l = omega arith
before_most (x ∷ rows) e l = go (is_row e l x) refl (before_most rows e l)
  where
    go : (b : Bool) → is_row e l x ≡ b → members_before rows e l ≤ row_members rows → members_before (x ∷ rows) e l ≤ row_members (x ∷ rows)
    go true b ih = rw b (omega arith)
    go false b ih = rw b (omega (arith, ih))
