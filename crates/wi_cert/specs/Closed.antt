-- The lines that bound every run: heads, pairs and rows.
use Rattle.std.specs.Prelude.{◌≡◌, ℕ, ◌+◌, ◌-◌, ◌^◌, ◌<◌, Bool, true, false, ◌&&◌, ◌||◌, ◌==◌, if◌then◌else◌, List, [], ◌∷◌, ◌++◌, Option, Some, None, length, map, codes, nat_lt, option_and_then, option_map}
use Rattle.std.specs.List.{All}
use Rattle.std.specs.Cmp.Lexicographic.{slice_cmp}
use Rattle.std.specs.Ordering.{nat_cmp}
use Rattle.std.specs.declared.cmp.Ordering.{Ordering}
use Rattle.std.specs.declared.cmp.Ordering.TheVariants.{Less, Equal, Greater}
use Rattle.wi_weight.specs.Weights.{EachBelow}
use Rattle.wi_cert.specs.declared.shown.Shown.{Shown}
use Rattle.wi_cert.specs.declared.row.Row.{Row}
use Rattle.wi_cert.specs.declared.closed.Closed.{Closed}
use Rattle.wi_cert.specs.declared.closed.ClosedPlace.{ClosedPlace}
use Rattle.wi_cert.specs.declared.closed.ClosedPlace.TheVariants as places
use Rattle.wi_cert.specs.Numbers.{printed, numbers_in, count_after, count_line}
use Rattle.wi_cert.specs.Order.{pair_below, row_below, is_next, EachAdded}
use Rattle.wi_cert.specs.Shown.{is_no, pair_line}

abbrev pub is_less : Ordering → Bool
is_less Less = true
is_less Equal = false
is_less Greater = false

-- the row weighs less than what is shown; of a no, each row may stand
abbrev pub is_lighter : Shown → Row → Bool
is_lighter s r = is_no s.claim || is_less (slice_cmp nat_cmp r.weight s.weight)

abbrev pub row_line : Row → List ℕ
row_line r = printed (r.p ∷ r.g ∷ r.q ∷ r.weight)

abbrev pub closed_lines : Closed → List (List ℕ)
closed_lines c = count_line (codes "heads ") (length c.heads)
    ∷ (map pair_line c.heads ++ count_line (codes "pairs ") (length c.pairs)
    ∷ (map pair_line c.pairs ++ count_line (codes "rows ") (length c.rows)
    ∷ map row_line c.rows))

-- a row that may follow those before it: each has as many numbers as the weight that is shown would have
pub record IsRow (s : Shown) (before : List Row) (r : Row) : Type 0 where
  pub weight : length r.weight ≡ s.terms + 1
  pub next : is_next row_below before r ≡ true
  pub lighter : is_lighter s r ≡ true

-- what makes these lines, under what is shown: heads, pairs and rows rise, and each row weighs less than what is shown
pub record IsClosed (s : Shown) (c : Closed) : Type 0 where
  pub heads : EachAdded (λ before x. is_next pair_below before x ≡ true) [] c.heads
  pub pairs : EachAdded (λ before x. is_next pair_below before x ≡ true) [] c.pairs
  pub rows : EachAdded (IsRow s) [] c.rows

abbrev pub HasRowRanges : Row → Type 0
HasRowRanges r = (r.p < 2 ^ 64) × (r.g < 2 ^ 32) × (r.q < 2 ^ 64) × EachBelow (2 ^ 64) r.weight

-- the ranges that the numbers have by their types
pub record HasClosedRanges (c : Closed) : Type 0 where
  pub heads : All (λ x. (x.0 < 2 ^ 64) × (x.1 < 2 ^ 32)) c.heads
  pub pairs : All (λ x. (x.0 < 2 ^ 32) × (x.1 < 2 ^ 32)) c.pairs
  pub rows : All HasRowRanges c.rows
  pub head_count : length c.heads < 2 ^ 64
  pub pair_count : length c.pairs < 2 ^ 64
  pub row_count : length c.rows < 2 ^ 64

abbrev pub head_of : List ℕ → Option (ℕ × ℕ)
head_of (p ∷ g ∷ []) = if nat_lt g (2 ^ 32) then Some (p, g) else None
head_of ns = None

abbrev pub pair_of : List ℕ → Option (ℕ × ℕ)
pair_of (u ∷ v ∷ []) = if nat_lt u (2 ^ 32) && nat_lt v (2 ^ 32) then Some (u, v) else None
pair_of ns = None

abbrev pub row_of : ℕ → List ℕ → Option Row
row_of terms (p ∷ g ∷ q ∷ w) = if nat_lt g (2 ^ 32) && length w == terms + 1 then Some (record { p = p; g = g; q = q; weight = w }) else None
row_of terms ns = None

-- the list with one more item, where that may follow
abbrev pub with_next : {A : Type 0} → (List A → A → Bool) → List A → Option A → Option (List A)
with_next may_follow xs None = None
with_next may_follow xs (Some x) = if may_follow xs x then Some (xs ++ x ∷ []) else None

abbrev pub heads_after : List (ℕ × ℕ) → List ℕ → Option (List (ℕ × ℕ))
heads_after xs line = with_next (is_next pair_below) xs (option_and_then head_of (numbers_in line))

abbrev pub pairs_after : List (ℕ × ℕ) → List ℕ → Option (List (ℕ × ℕ))
pairs_after xs line = with_next (is_next pair_below) xs (option_and_then pair_of (numbers_in line))

abbrev pub rows_after : Shown → List Row → List ℕ → Option (List Row)
rows_after s xs line = with_next (λ before x. is_next row_below before x && is_lighter s x) xs (option_and_then (λ ns. row_of s.terms ns) (numbers_in line))

-- so many heads, pairs or rows are to come
abbrev pub heads_left : ℕ → ClosedPlace
heads_left n = if n == 0 then places.PairCount else places.Head n

abbrev pub pairs_left : ℕ → ClosedPlace
pairs_left n = if n == 0 then places.RowCount else places.Pair n

abbrev pub rows_left : ℕ → Option ClosedPlace
rows_left n = if n == 0 then None else Some (places.Row n)

-- What a line of the form asked in its place leaves, under what is shown: the next place, if there is one more, and the lists
-- so far. None: the line isn't of that form.
abbrev pub asked_closed : Shown → ClosedPlace → Closed → List ℕ → Option (Option ClosedPlace × Closed)
asked_closed s places.HeadCount c line = option_map (λ n. (Some (heads_left n), c)) (count_after (codes "heads ") line)
asked_closed s (places.Head n) c line = option_map (λ xs. (Some (heads_left (n - 1)), record c { heads = xs })) (heads_after c.heads line)
asked_closed s places.PairCount c line = option_map (λ n. (Some (pairs_left n), c)) (count_after (codes "pairs ") line)
asked_closed s (places.Pair n) c line = option_map (λ xs. (Some (pairs_left (n - 1)), record c { pairs = xs })) (pairs_after c.pairs line)
asked_closed s places.RowCount c line = option_map (λ n. (rows_left n, c)) (count_after (codes "rows ") line)
asked_closed s (places.Row n) c line = option_map (λ xs. (rows_left (n - 1), record c { rows = xs })) (rows_after s c.rows line)

-- no head, no pair, no row
abbrev pub blank_closed : Closed
blank_closed = record { heads = []; pairs = []; rows = [] }
