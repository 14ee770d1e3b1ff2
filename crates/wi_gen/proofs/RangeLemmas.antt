-- Lists made over numbers in turn.
use Rattle.std.proofs.Common.{◌≡◌, ℕ, zero, suc, ◌+◌, ◌-◌, ◌<◌, ◌≤◌, Bool, false, ◌∷◌, map, slice_get, Some, refl, ap, arith}
use Rattle.std.specs.List.{list_any, range_with_len}
use Rattle.std.proofs.lemmas.Bool.{or_from}

-- none passes a test that fails at each number
pub none_in_range : {X : Type 0} (p : X → Bool) (f : ℕ → X) (at n : ℕ) → ((j : ℕ) → at ≤ j → j < at + n → p (f j) ≡ false)
    → list_any p (map f (range_with_len at n)) ≡ false
none_in_range p f at zero each = refl
none_in_range p f at (suc n) each =
    or_from (p (f at)) (list_any p (map f (range_with_len (at + 1) n))) (each at (omega arith) (omega arith))
    (none_in_range p f (at + 1) n (λ j low high. each j (omega arith) (omega arith)))

-- what stands at a place
pub get_in_range : {X : Type 0} (f : ℕ → X) (at n k j : ℕ) → k < n → j ≡ at + k → slice_get (map f (range_with_len at n)) k ≡ Some (f j)
get_in_range f at zero k j low is = absurd (omega arith)
get_in_range f at (suc n) zero j low is = ap (λ i. Some (f i)) (omega arith)
get_in_range f at (suc n) (suc k) j low is = get_in_range f (at + 1) n k j (omega arith) (omega arith)

-- the first number of some, and the rest
pub range_begins : (at n : ℕ) → 0 < n → range_with_len at n ≡ at ∷ range_with_len (at + 1) (n - 1)
range_begins at zero some = absurd (omega arith)
range_begins at (suc n) some = ap (λ m. at ∷ range_with_len (at + 1) m) (omega arith)
