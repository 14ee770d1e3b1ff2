-- What is left of a ring's rows, with the next one first.
use Rattle.std.proofs.Common.{◌≡◌, ℕ, ◌+◌, ◌-◌, ◌<◌, ◌≤◌, List, [], ◌∷◌, ◌++◌, map, ap, ◌∙◌, arith}
use Rattle.std.specs.List.{flat_map, range_with_len}
use Rattle.wi_gen.specs.Ring.{Ring, rows_of, first_row, middle_rows, last_rows, bypass_row, bypass_rows, forward, backward}
use Rattle.wi_gen.specs.private.Rows.{middle_row, from_middle, from_last, from_bypass, from_place}
use Rattle.wi_gen.proofs.RangeLemmas.{range_begins}

-- ---- what is left, unrolled
begins : {X : Type 0} (f : ℕ → List X) (i n : ℕ) → i < n
    → flat_map f (range_with_len i (n - i)) ≡ f i ++ flat_map f (range_with_len (i + 1) (n - (i + 1)))
begins f i n low = ap (flat_map f) (range_begins i (n - i) (omega arith)) ∙ ap (λ m. f i ++ flat_map f (range_with_len (i + 1) m)) (omega arith)

ends : {X : Type 0} (f : ℕ → List X) (i n : ℕ) → n ≤ i → flat_map f (range_with_len i (n - i)) ≡ []
ends f i n high = ap (λ m. flat_map f (range_with_len i m)) (let e : n - i ≡ 0 = omega arith in e)

pub after_first : (ring : Ring) → rows_of ring ≡ first_row ring ∷ from_middle ring 1
after_first ring = ap (λ m. first_row ring ∷ (flat_map (middle_rows ring) (range_with_len 1 (ring.path - 1)) ++ last_rows ring ++ flat_map (bypass_rows ring) (range_with_len 0 m))) (omega arith)

pub after_middle : (ring : Ring) (i : ℕ) → i < ring.path
    → from_middle ring i ≡ middle_row ring i (forward ring (i - 1)) ∷ middle_row ring i (backward ring i) ∷ from_middle ring (i + 1)
after_middle ring i low = ap (λ rows. rows ++ last_rows ring ++ from_bypass ring 0) (begins (middle_rows ring) i ring.path low)

pub no_middle : (ring : Ring) (i : ℕ) → ring.path ≤ i → from_middle ring i ≡ from_last ring
no_middle ring i high = ap (λ rows. rows ++ last_rows ring ++ from_bypass ring 0) (ends (middle_rows ring) i ring.path high)

pub after_bypasses : (ring : Ring) (i : ℕ) → ring.path ≤ i → from_bypass ring i ≡ []
after_bypasses ring i high = ends (bypass_rows ring) i ring.path high

pub first_place : (ring : Ring) (i : ℕ) → i < ring.path → from_bypass ring i ≡ from_place ring i 1
first_place ring i low = begins (bypass_rows ring) i ring.path low ∙ ap (λ m. map (bypass_row ring i) (range_with_len 1 m) ++ from_bypass ring (i + 1)) (omega arith)

pub next_place : (ring : Ring) (i d : ℕ) → d + 1 < ring.size → from_place ring i d ≡ bypass_row ring i d ∷ from_place ring i (d + 1)
next_place ring i d far =
    ap (λ ds. map (bypass_row ring i) ds ++ from_bypass ring (i + 1)) (range_begins d (ring.size - 1 - d) (omega arith))
    ∙ ap (λ m. bypass_row ring i d ∷ (map (bypass_row ring i) (range_with_len (d + 1) m) ++ from_bypass ring (i + 1))) (omega arith)

pub last_place : (ring : Ring) (i d : ℕ) → ring.size ≤ d + 1 → from_place ring i d ≡ from_bypass ring (i + 1)
last_place ring i d high = ap (λ m. map (bypass_row ring i) (range_with_len d m) ++ from_bypass ring (i + 1)) (let e : ring.size - 1 - d ≡ 0 = omega arith in e)
