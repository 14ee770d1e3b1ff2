-- Places round a circle.
use Rattle.std.proofs.Common.{◌≡◌, ℕ, ◌+◌, ◌-◌, ◌%◌, ◌<◌, ◌≤◌, ◌⊎◌, inl, inr, ap, ◌∙◌, arith}
use Rattle.std.proofs.lemmas.Bool.{cases_lt}
use Rattle.std.proofs.Math.Nat.{mod-eq_of_lt, mod-eq-sub-mod, mod-add-mod}

-- a place is as it stands, or one turn less
turn : (x n : ℕ) → x < n + n → ((x < n) × (x % n ≡ x)) ⊎ ((n ≤ x) × (x % n + n ≡ x))
turn x n small =
    elim (cases_lt x n) [
      | inl low ↦ inl (low, mod-eq_of_lt low)
      | inr high ↦ inr (high, omega (arith, mod-eq-sub-mod high, mod-eq_of_lt (let less : x - n < n = omega arith in less)))
    ]

-- places stay in the circle
pub turn_within : (x n : ℕ) → 0 < n → x % n < n
turn_within x n some = omega arith

-- two places have two next ones
pub next_apart : (i j n : ℕ) → i < n → j < n → (i + 1) % n ≡ (j + 1) % n → i ≡ j
next_apart i j n one other same =
    elim (turn (i + 1) n (omega arith)) [
      | inl a ↦ elim (turn (j + 1) n (omega arith)) [
        | inl b ↦ omega (arith, a.0, a.1, b.0, b.1, same)
        | inr b ↦ omega
            (arith, a.0, a.1, b.0, b.1, same)
      ]
      | inr a ↦ elim (turn (j + 1) n (omega arith)) [
        | inl b ↦ omega (arith, a.0, a.1, b.0, b.1, same)
        | inr b ↦ omega
            (arith, a.0, a.1, b.0, b.1, same)
      ]
    ]

-- and so many places back there are two, for two numbers
pub back_apart : (i d e n : ℕ) → i < n → d < n → e < n → (i + n - d) % n ≡ (i + n - e) % n → d ≡ e
back_apart i d e n place one other same =
    elim (turn (i + n - d) n (omega arith)) [
      | inl a ↦ elim (turn (i + n - e) n (omega arith)) [
        | inl b ↦ omega (arith, a.0, a.1, b.0, b.1, same)
        | inr b ↦ omega
            (arith, a.0, a.1, b.0, b.1, same)
      ]
      | inr a ↦ elim (turn (i + n - e) n (omega arith)) [
        | inl b ↦ omega (arith, a.0, a.1, b.0, b.1, same)
        | inr b ↦ omega
            (arith, a.0, a.1, b.0, b.1, same)
      ]
    ]

-- the next of the place before
pub next_before : (i n : ℕ) → 0 < i → i < n → (i - 1 + 1) % n ≡ i
next_before i n some within = ap (λ x. x % n) (let e : i - 1 + 1 ≡ i = omega arith in e) ∙ mod-eq_of_lt within

-- the next of the last place
pub next_last : (n : ℕ) → 0 < n → (n - 1 + 1) % n ≡ 0
next_last n some =
    elim (turn (n - 1 + 1) n (omega arith)) [ inl a ↦ absurd (omega (arith, a.0)) | inr a ↦ omega (arith, a.0, a.1) ]

-- the next of a place one more back
pub next_back : (i d n : ℕ) → d < n → ((i + n - (d + 1)) % n + 1) % n ≡ (i + n - d) % n
next_back i d n far = mod-add-mod (i + n - (d + 1)) n 1 ∙ ap (λ x. x % n) (let e : i + n - (d + 1) + 1 ≡ i + n - d = omega arith in e)
