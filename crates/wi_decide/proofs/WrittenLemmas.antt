-- A weight that is written with fewer terms is the whole weight, where the others are 0, and compares as that does.
use Rattle.std.proofs.Common.{◌≡◌, ℕ, zero, suc, ◌+◌, ◌-◌, ◌<◌, ◌≤◌, List, [], ◌∷◌, ◌++◌, length, take, drop, replicate, refl, arith, ap, sym, ◌∙◌, length-append}
use Rattle.std.specs.Prelude.{slice_index}
use Rattle.std.specs.Cmp.Lexicographic.{slice_cmp}
use Rattle.std.specs.Ordering.{nat_cmp, ordering_then}
use Rattle.std.proofs.lemmas.List.{length-take-le}
use Rattle.std.specs.declared.cmp.Ordering.TheVariants.{Less}
use Rattle.wi_weight.specs.Weights.{Below}
use Rattle.wi_quantity.specs.Weighing.{components}
use Rattle.wi_build.specs.Systems.{scale}
use Rattle.wi_accept.specs.Answers.{padded}
use Rattle.wi_decide.specs.Showing.{Weight, shown_weight}
use Rattle.wi_accept.proofs.OrderLemmas.{below_before}

-- numbers from a place on are 0
abbrev pub AreZeroFrom : ℕ → List ℕ → Type 0
AreZeroFrom n xs = (i : ℕ) → n ≤ i → i < length xs → slice_index xs i ≡ 0

zeros_later : (n x : ℕ) (xs : List ℕ) → AreZeroFrom (suc n) (x ∷ xs) → AreZeroFrom n xs
zeros_later n x xs h i l u = h (suc i) (omega arith) (omega arith)

rest_zero : (x : ℕ) (xs : List ℕ) → AreZeroFrom zero (x ∷ xs) → AreZeroFrom zero xs
rest_zero x xs h i l u = h (suc i) (omega arith) (omega arith)

first_zero : (x : ℕ) (xs : List ℕ) → AreZeroFrom zero (x ∷ xs) → x ≡ 0
first_zero x xs h = h zero (omega arith) (omega arith)

are_zeros : (xs : List ℕ) → AreZeroFrom zero xs → replicate (length xs) 0 ≡ xs
are_zeros [] h = refl
are_zeros (x ∷ xs) h = rw (first_zero x xs h) (ap (λ ys. 0 ∷ ys) (are_zeros xs (rest_zero x xs h)))

-- so many of some numbers and a last one, with 0 for the others
filled : (n : ℕ) (xs : List ℕ) (last : ℕ) → n ≤ length xs → AreZeroFrom n xs
    → take n (take n xs ++ last ∷ []) ++ (replicate (length xs - n) 0 ++ drop n (take n xs ++ last ∷ [])) ≡ xs ++ last ∷ []
filled zero xs last few h =
    let all : length xs - 0 ≡ length xs = omega arith in
    ap (λ k. replicate k 0 ++ last ∷ []) all ∙ ap (λ ys. ys ++ last ∷ []) (are_zeros xs h)
filled (suc n) [] last few h = absurd (omega (arith, few))
filled (suc n) (x ∷ xs) last few h =
    let less : length (x ∷ xs) - suc n ≡ length xs - n = omega arith in
    ap (λ k. x ∷ (take n (take n xs ++ last ∷ []) ++ (replicate k 0 ++ drop n (take n xs ++ last ∷ [])))) less
    ∙ ap (λ ys. x ∷ ys) (filled n xs last (omega (arith, few)) (zeros_later n x xs h))

-- numbers compare as they do with so many zeros put in at a place
zeros_compared : (k : ℕ) (xs ys : List ℕ) → slice_cmp nat_cmp (replicate k 0 ++ xs) (replicate k 0 ++ ys) ≡ slice_cmp nat_cmp xs ys
zeros_compared zero xs ys = refl
zeros_compared (suc k) xs ys = zeros_compared k xs ys

pub padded_compared : (k n : ℕ) (xs ys : List ℕ) → length xs ≡ length ys
    → slice_cmp nat_cmp (take n xs ++ (replicate k 0 ++ drop n xs)) (take n ys ++ (replicate k 0 ++ drop n ys)) ≡ slice_cmp nat_cmp xs ys
padded_compared k zero xs ys same = zeros_compared k xs ys
padded_compared k (suc n) [] [] same = zeros_compared k [] []
padded_compared k (suc n) [] (y ∷ ys) same = absurd (omega (arith, same))
padded_compared k (suc n) (x ∷ xs) [] same = absurd (omega (arith, same))
padded_compared k (suc n) (x ∷ xs) (y ∷ ys) same = ap (λ o. ordering_then (nat_cmp x y) o) (padded_compared k n xs ys (omega (arith, same)))

length_written : (n : ℕ) (xs : List ℕ) (last : ℕ) → n ≤ length xs → length (take n xs ++ last ∷ []) ≡ n + 1
length_written n xs last h = omega (arith, length-append (take n xs) (last ∷ []), length-take-le n xs h)

-- the terms of a weight
abbrev pub terms_of : Weight → List ℕ
terms_of w = take 5 (components w)

-- its terms from a place on are 0
abbrev pub HasTerms : ℕ → Weight → Type 0
HasTerms n w = AreZeroFrom n (terms_of w)

-- the first terms are the first components
first_terms : (n : ℕ) (w : Weight) → n ≤ 5 → take n (components w) ≡ take n (terms_of w)
first_terms zero w h = refl
first_terms (suc zero) w h = refl
first_terms (suc (suc zero)) w h = refl
first_terms (suc (suc (suc zero))) w h = refl
first_terms (suc (suc (suc (suc zero)))) w h = refl
first_terms (suc (suc (suc (suc (suc zero))))) w h = refl
first_terms (suc (suc (suc (suc (suc (suc n)))))) w h = absurd (omega (arith, h))

written_is : (n : ℕ) (w : Weight) → n ≤ 5 → shown_weight n w ≡ take n (terms_of w) ++ w.second.count ∷ []
written_is n w h = ap (λ xs. xs ++ w.second.count ∷ []) (first_terms n w h)

-- what is written is the weight, with 0 for the terms that it hasn't
pub padded_written : (n : ℕ) (w : Weight) → n ≤ 5 → HasTerms n w → padded n (shown_weight n w) ≡ components w
padded_written n w few h = ap (padded n) (written_is n w few) ∙ filled n (terms_of w) w.second.count few h

pub written_length : (n : ℕ) (w : Weight) → n ≤ 5 → length (shown_weight n w) ≡ n + 1
written_length n w few = ap length (written_is n w few) ∙ length_written n (terms_of w) w.second.count few

-- a weight below another is less than that as it is written
pub written_less : (n : ℕ) (w v : Weight) (shown : List ℕ) → n ≤ 5 → HasTerms n w → length shown ≡ n + 1 → padded n shown ≡ components v → Below scale (components w) (components v)
    → slice_cmp nat_cmp (shown_weight n w) shown ≡ Less
written_less n w v shown few h count is below =
    sym (padded_compared (5 - n) n (shown_weight n w) shown (written_length n w few ∙ sym count))
    ∙ ap (λ xs. slice_cmp nat_cmp xs (padded n shown)) (padded_written n w few h)
    ∙ ap (λ ys. slice_cmp nat_cmp (components w) ys) is
    ∙ below_before (components w) (components v) refl below
