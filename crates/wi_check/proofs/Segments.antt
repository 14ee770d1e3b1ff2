-- Parts of lists in rising order: the elements between two places at which tests turn.
use Rattle.std.specs.Prelude.{◌≡◌, ℕ, zero, suc, ◌-◌, ◌≤◌, Bool, true, false, ◌&&◌, ◌||◌, ◌==◌, List, [], ◌∷◌, length, take, drop, refl, nat_lt, nat_le, get_or, filter}
use Rattle.std.specs.List.{AllWithin}
use Rattle.std.specs.List.Sorted.{IsPartitionedBy, IsPartitionPoint}
use Rattle.std.proofs.Common.{sym, ap, ◌∙◌, arith, inl, inr, true≢false}
use Rattle.std.proofs.lemmas.Bool.{cases_lt}
use Rattle.std.proofs.lemmas.Bool.Decides.{nat_tests}
use Rattle.wi_cert.specs.declared.row.Row.{Row}
use Rattle.wi_cert.specs.Order.{pair_below, row_below}
use Rattle.wi_check.specs.private.Lists.{Rises, is_row_of}
use Rattle.wi_check.proofs.Search.{parted}

abbrev pub TurnsAt : {A : Type 0} → (A → Bool) → List A → ℕ → Type 0
TurnsAt p xs i = IsPartitionPoint (λ x. p x ≡ true) (λ x. p x ≡ false) xs i

filter_none : {A : Type 0} (test : A → Bool) (xs : List A) → AllWithin (λ x. test x ≡ false) xs 0 (length xs) → filter test xs ≡ []
filter_none test [] none = refl
filter_none test (x ∷ xs) none = rw (none 0 x (omega arith) (omega arith)) (filter_none test xs (λ k d low high. none (suc k) d (omega arith) (omega arith)))

filter_front : {A : Type 0} (test : A → Bool) (n : ℕ) (xs : List A) → n ≤ length xs → AllWithin (λ x. test x ≡ true) xs 0 n → AllWithin (λ x. test x ≡ false) xs n (length xs) → filter test xs ≡ take n xs
filter_front test zero xs within inside behind = filter_none test xs behind
filter_front test (suc n) [] within inside behind = absurd (omega arith)
filter_front test (suc n) (x ∷ xs) within inside behind =
    rw (inside 0 x (omega arith) (omega arith))
    (ap (λ ys. x ∷ ys) (filter_front test n xs (omega arith) (λ k d low high. inside (suc k) d (omega arith) (omega arith)) (λ k d low high. behind (suc k) d (omega arith) (omega arith))))

filter_range : {A : Type 0} (test : A → Bool) (a b : ℕ) (xs : List A) → a ≤ b → b ≤ length xs
    → AllWithin (λ x. test x ≡ false) xs 0 a → AllWithin (λ x. test x ≡ true) xs a b → AllWithin (λ x. test x ≡ false) xs b (length xs) → take (b - a) (drop a xs) ≡ filter test xs
filter_range test zero b xs order within before inside behind = let all : b - 0 ≡ b = omega arith in ap (λ n. take n xs) all ∙ sym (filter_front test b xs within inside behind)
filter_range test (suc a) zero xs order within before inside behind = absurd (omega arith)
filter_range test (suc a) (suc b) [] order within before inside behind = absurd (omega arith)
filter_range test (suc a) (suc b) (x ∷ xs) order within before inside behind =
    let less : suc b - suc a ≡ b - a = omega arith in
    rw (before 0 x (omega arith) (omega arith)) (ap (λ n. take n (drop a xs)) less
    ∙ filter_range test a b xs (omega arith) (omega arith) (λ k d low high. before (suc k) d (omega arith) (omega arith)) (λ k d low high. inside (suc k) d (omega arith) (omega arith))
    (λ k d low high. behind (suc k) d (omega arith) (omega arith)))

-- a stronger test turns first
pub turns_in_order : {A : Type 0} (first second : A → Bool) (xs : List A) (a b : ℕ) → a ≤ length xs → TurnsAt first xs a → TurnsAt second xs b → ((x : A) → first x ≡ true → second x ≡ true) → a ≤ b
turns_in_order first second [] a b within begins ends implies = omega arith
turns_in_order first second (x ∷ xs) a b within begins ends implies = elim (cases_lt b a) [
  | inr order ↦ order
  | inl less ↦
      let passes = implies (get_or (x ∷ xs) b x) (begins.0 b x (omega arith) less) in
      absurd (true≢false (sym passes ∙ ends.1 b x (omega arith) (omega arith)))
]

-- what three tests say of an element: the first and the second turn where those begin and end that pass the third
pub record Bounds {A : Type 0} (first second test : A → Bool) : Type 0 where
  pub implies : (x : A) → first x ≡ true → second x ≡ true
  pub before : (x : A) → first x ≡ true → test x ≡ false
  pub inside : (x : A) → first x ≡ false → second x ≡ true → test x ≡ true
  pub behind : (x : A) → second x ≡ false → test x ≡ false

pub between : {A : Type 0} (first second test : A → Bool) (xs : List A) (a b : ℕ) → Bounds first second test → a ≤ length xs → b ≤ length xs → TurnsAt first xs a → TurnsAt second xs b
    → take (b - a) (drop a xs) ≡ filter test xs
between first second test xs a b of within_a within_b begins ends = filter_range test a b xs (turns_in_order first second xs a b within_a begins ends of.implies) within_b
    (λ k d low high. of.before (get_or xs k d) (begins.0 k d low high))
    (λ k d low high. of.inside (get_or xs k d) (begins.1 k d low (omega arith)) (ends.0 k d (omega arith) high))
    (λ k d low high. of.behind (get_or xs k d) (ends.1 k d low high))

-- pairs below those of an upper symbol, and up to them
abbrev pub is_pair_before : ℕ → ℕ × ℕ → Bool
is_pair_before g x = nat_lt x.0 g

abbrev pub is_pair_up_to : ℕ → ℕ × ℕ → Bool
is_pair_up_to g x = nat_le x.0 g

-- rows below those from p with g on top, and up to them
abbrev pub is_row_before : ℕ → ℕ → Row → Bool
is_row_before p g r = nat_lt r.p p || (r.p == p && nat_lt r.g g)

abbrev pub is_row_up_to : ℕ → ℕ → Row → Bool
is_row_up_to p g r = nat_lt r.p p || (r.p == p && nat_le r.g g)

pair_before_down : (g : ℕ) (x y : ℕ × ℕ) → pair_below x y ≡ true → is_pair_before g y ≡ true → is_pair_before g x ≡ true
pair_before_down g x y h k = grind (arith, nat_tests)

pair_up_to_down : (g : ℕ) (x y : ℕ × ℕ) → pair_below x y ≡ true → is_pair_up_to g y ≡ true → is_pair_up_to g x ≡ true
pair_up_to_down g x y h k = grind (arith, nat_tests)

row_before_down : (p g : ℕ) (x y : Row) → row_below x y ≡ true → is_row_before p g y ≡ true → is_row_before p g x ≡ true
row_before_down p g x y h k = grind (arith, nat_tests)

row_up_to_down : (p g : ℕ) (x y : Row) → row_below x y ≡ true → is_row_up_to p g y ≡ true → is_row_up_to p g x ≡ true
row_up_to_down p g x y h k = grind (arith, nat_tests)

pair_implies : (g : ℕ) (x : ℕ × ℕ) → is_pair_before g x ≡ true → is_pair_up_to g x ≡ true
pair_implies g x h = grind (arith, nat_tests)

pair_low : (g : ℕ) (x : ℕ × ℕ) → is_pair_before g x ≡ true → (x.0 == g) ≡ false
pair_low g x h = grind (arith, nat_tests)

pair_inside : (g : ℕ) (x : ℕ × ℕ) → is_pair_before g x ≡ false → is_pair_up_to g x ≡ true → (x.0 == g) ≡ true
pair_inside g x h k = grind (arith, nat_tests)

pair_high : (g : ℕ) (x : ℕ × ℕ) → is_pair_up_to g x ≡ false → (x.0 == g) ≡ false
pair_high g x h = grind (arith, nat_tests)

row_implies : (p g : ℕ) (x : Row) → is_row_before p g x ≡ true → is_row_up_to p g x ≡ true
row_implies p g x h = grind (arith, nat_tests)

row_low : (p g : ℕ) (x : Row) → is_row_before p g x ≡ true → is_row_of p g x ≡ false
row_low p g x h = grind (arith, nat_tests)

row_inside : (p g : ℕ) (x : Row) → is_row_before p g x ≡ false → is_row_up_to p g x ≡ true → is_row_of p g x ≡ true
row_inside p g x h k = grind (arith, nat_tests)

row_high : (p g : ℕ) (x : Row) → is_row_up_to p g x ≡ false → is_row_of p g x ≡ false
row_high p g x h = grind (arith, nat_tests)

pub pair_bounds : (g : ℕ) → Bounds (is_pair_before g) (is_pair_up_to g) (λ x. x.0 == g)
pair_bounds g = record { implies = pair_implies g; before = pair_low g; inside = pair_inside g; behind = pair_high g }

pub row_bounds : (p g : ℕ) → Bounds (is_row_before p g) (is_row_up_to p g) (is_row_of p g)
row_bounds p g = record { implies = row_implies p g; before = row_low p g; inside = row_inside p g; behind = row_high p g }

pub pairs_before_parted : (g : ℕ) (pairs : List (ℕ × ℕ)) → Rises pair_below pairs → IsPartitionedBy (is_pair_before g) pairs
pairs_before_parted g pairs rise = parted (is_pair_before g) pairs rise (pair_before_down g)

pub pairs_up_to_parted : (g : ℕ) (pairs : List (ℕ × ℕ)) → Rises pair_below pairs → IsPartitionedBy (is_pair_up_to g) pairs
pairs_up_to_parted g pairs rise = parted (is_pair_up_to g) pairs rise (pair_up_to_down g)

pub rows_before_parted : (p g : ℕ) (rows : List Row) → Rises row_below rows → IsPartitionedBy (is_row_before p g) rows
rows_before_parted p g rows rise = parted (is_row_before p g) rows rise (row_before_down p g)

pub rows_up_to_parted : (p g : ℕ) (rows : List Row) → Rises row_below rows → IsPartitionedBy (is_row_up_to p g) rows
rows_up_to_parted p g rows rise = parted (is_row_up_to p g) rows rise (row_up_to_down p g)
