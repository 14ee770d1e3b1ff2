-- What terms and vectors are worth, where each quantity is below 2^32.
use Rattle.std.proofs.Common.{◌≡◌, ℕ, zero, suc, ◌+◌, ◌*◌, ◌<◌, ◌≤◌, ◌^◌, true, nat_le, List, [], ◌∷◌, ◌++◌, length, map, take, replicate, arith}
use Rattle.std.specs.List.{list_all}
use Rattle.std.proofs.lemmas.Bool.{and_parts, leb-true}
use Rattle.std.proofs.lemmas.Nat.{mul-le}
use Rattle.std.proofs.lemmas.List.Sums.{sum_by-cons}
use Rattle.wi_weight.specs.Weights.{EachBelow}
use Rattle.wi_weight.specs.lemmas.Sums.{each_below_both}
use Rattle.wi_world.specs.declared.run.Quantity.{Quantity}
use Rattle.wi_quantity.specs.declared.vector.Part.{Part}
use Rattle.wi_quantity.specs.Vectors.{is_part, is_term, is_vector}
use Rattle.wi_quantity.specs.Weighing.{term_value, term_values}

pub each_below_take : (n k : ℕ) (xs : List ℕ) → EachBelow n xs → EachBelow n (take k xs)
each_below_take n zero xs h = tt
each_below_take n (suc k) [] h = tt
each_below_take n (suc k) (x ∷ xs) h = (h.0, each_below_take n k xs h.1)

pub zeros_below : (n k : ℕ) → 0 < n → EachBelow n (replicate k 0)
zeros_below n zero h = tt
zeros_below n (suc k) h = (h, zeros_below n k h)

module _ (value : Quantity → ℕ) (small : (q : Quantity) → value q < 2 ^ 32) where
  part_most : (part : Part) → is_part part ≡ true → part.coefficient * value part.quantity ≤ 65535 * 2 ^ 32
  part_most part h = mul-le part.coefficient (value part.quantity) 65535 (2 ^ 32) (leb-true part.coefficient 65535 h) (omega (arith, small part.quantity))

  parts_most : (term : List Part) → list_all is_part term ≡ true → term_value value term ≤ length term * (65535 * 2 ^ 32)
  parts_most [] h = omega arith
  parts_most (part ∷ term) h =
      let p = and_parts (is_part part) (list_all is_part term) h in
      let first : term_value value (part ∷ term) ≡ part.coefficient * value part.quantity + term_value value term =
      sum_by-cons (λ (x : ℕ). x) (part.coefficient * value part.quantity) (map (λ (part : Part). part.coefficient * value part.quantity) term) in
      omega (arith, first, part_most part p.0, parts_most term p.1)

  term_below : (term : List Part) → is_term term ≡ true → term_value value term < 2 ^ 64
  term_below term h =
      let p = and_parts (nat_le (length term) 5) (list_all is_part term) h in
      omega (arith, leb-true (length term) 5 p.0, parts_most term p.1)

  terms_below : (vector : List (List Part)) → list_all is_term vector ≡ true → EachBelow (2 ^ 64) (map (term_value value) vector)
  terms_below [] h = tt
  terms_below (term ∷ vector) h = let p = and_parts (is_term term) (list_all is_term vector) h in (term_below term p.0, terms_below vector p.1)

  -- A vector's first five values are below 2^64.
  pub values_below : (vector : List (List Part)) → is_vector vector ≡ true → EachBelow (2 ^ 64) (take 5 (term_values value vector ++ 0 ∷ []))
  values_below vector h =
      let p = and_parts (nat_le (length vector) 5) (list_all is_term vector) h in
      let all = each_below_both (2 ^ 64) (map (term_value value) vector) (replicate 5 0) (terms_below vector p.1) (zeros_below (2 ^ 64) 5 (omega arith)) in
      each_below_take (2 ^ 64) 5 (term_values value vector ++ 0 ∷ [])
      (each_below_both (2 ^ 64) (term_values value vector) (0 ∷ []) (each_below_take (2 ^ 64) 5 (map (term_value value) vector ++ replicate 5 0) all) (zeros_below (2 ^ 64) 1 (omega arith)))
