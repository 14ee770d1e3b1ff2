-- A set has one list in rising order.
use Rattle.std.proofs.Common.{◌≡◌, ℕ, ◌+◌, ◌<◌, ◌↔◌, List, [], ◌∷◌, Contains, refl, sym, inl, inr, subst, arith, add-one}
use Rattle.std.specs.List.Sorted.{IsStrictlyIncreasing}
use Rattle.wi_nfa.proofs.Marking.{nothing_in}
use Rattle.wi_nfa.proofs.Reading.{head_in, tail_in, head_or_tail}

rest_rises : (x : ℕ) (xs : List ℕ) → IsStrictlyIncreasing (x ∷ xs) → IsStrictlyIncreasing xs
rest_rises x xs rises k h = let above = rises (k + 1) (omega arith) in rw add-one (simp add-one at above)

-- the first is below all others
first_below : (x : ℕ) (xs : List ℕ) → IsStrictlyIncreasing (x ∷ xs) → (t : ℕ) → Contains xs t → x < t
first_below x [] rises t h = nothing_in t h
first_below x (y ∷ xs) rises t h =
    let below : x < y = rises 0 (omega arith) in
    elim (head_or_tail y t xs h) as (λ _. x < t) [
      | inl e ↦ subst (λ z. x < z) e below
      | inr k ↦ (let more = first_below y xs (rest_rises x (y ∷ xs) rises) t k in omega arith)
    ]

-- the same list from the second element on, if the first ones are equal
rest_same : (x : ℕ) (xs ys : List ℕ) → IsStrictlyIncreasing (x ∷ xs) → (t : ℕ) → (Contains (x ∷ xs) t → Contains (x ∷ ys) t) → Contains xs t → Contains ys t
rest_same x xs ys rises t same h =
    elim (head_or_tail x t ys (same (tail_in x t xs h))) as (λ _. Contains ys t) [
      | inl e ↦ (let below = first_below x xs rises t h in absurd (omega arith))
      | inr k ↦ k
    ]

first_same : (x y : ℕ) (xs ys : List ℕ) → IsStrictlyIncreasing (x ∷ xs) → IsStrictlyIncreasing (y ∷ ys) →
    ((t : ℕ) → Contains (x ∷ xs) t ↔ Contains (y ∷ ys) t) → x ≡ y
first_same x y xs ys rises rises' same =
    elim (head_or_tail y x ys ((same x).0 (head_in x xs))) as (λ _. x ≡ y) [
      | inl e ↦ sym e
      | inr k ↦ elim (head_or_tail x y xs ((same y).1 (head_in y ys))) as (λ _. x ≡ y) [
        | inl e ↦ e
        | inr j ↦ (let above = first_below y ys rises' x k in let below = first_below x xs rises y j in absurd (omega arith))
      ]
    ]

pub one_rising_list : (xs ys : List ℕ) → IsStrictlyIncreasing xs → IsStrictlyIncreasing ys → ((t : ℕ) → Contains xs t ↔ Contains ys t) → xs ≡ ys
one_rising_list [] [] rises rises' same = refl
one_rising_list [] (y ∷ ys) rises rises' same = nothing_in y ((same y).1 (head_in y ys))
one_rising_list (x ∷ xs) [] rises rises' same = nothing_in x ((same x).0 (head_in x xs))
one_rising_list (x ∷ xs) (y ∷ ys) rises rises' same =
    let e : x ≡ y = first_same x y xs ys rises rises' same in
    let rises'' : IsStrictlyIncreasing (x ∷ ys) = subst (λ z. IsStrictlyIncreasing (z ∷ ys)) (sym e) rises' in
    let same' : (t : ℕ) → Contains (x ∷ xs) t ↔ Contains (x ∷ ys) t = subst (λ z. (t : ℕ) → Contains (x ∷ xs) t ↔ Contains (z ∷ ys) t) (sym e) same in
    let rest : xs ≡ ys = one_rising_list xs ys (rest_rises x xs rises) (rest_rises y ys rises')
    (λ t. (rest_same x xs ys rises t (same' t).0, rest_same x ys xs rises'' t (same' t).1)) in
    cc
