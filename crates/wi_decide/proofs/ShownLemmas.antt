-- The components of a weight past the terms of a vector are 0, so one that doesn't fit is among those that are shown.
use Rattle.std.proofs.Common.{◌≡◌, ℕ, zero, suc, ◌<◌, ◌≤◌, ◌^◌, List, [], ◌∷◌, ◌++◌, length, take, Option, arith}
use Rattle.std.specs.Prelude.{slice_index}
use Rattle.wi_weight.specs.Weights.{EachBelow}
use Rattle.wi_weight.specs.declared.kinds.Pair.{Pair}
use Rattle.wi_weight.specs.declared.kinds.Terms.{Terms}
use Rattle.wi_weight.specs.declared.kinds.Effort.{Effort}
use Rattle.wi_quantity.specs.Weighing.{components}
use Rattle.wi_build.specs.Problems.{Problem, IsProblem}
use Rattle.wi_accept.proofs.UnusedTerms.{pops_at, take_at}
use Rattle.wi_decide.specs.Searches.{IsOverflowingBelow}

-- numbers and a last one are below a bound, where so many of them and the last one are and the others are 0
below_shown : (bound n : ℕ) (xs : List ℕ) (last : ℕ) → 0 < bound → ((i : ℕ) → n ≤ i → i < length xs → slice_index xs i ≡ 0) → EachBelow bound (take n (xs ++ last ∷ []) ++ last ∷ []) → EachBelow bound (xs ++ last ∷ [])
below_shown bound zero [] last some past h = h
below_shown bound (suc n) [] last some past h = (h.0, tt)
below_shown bound zero (x ∷ xs) last some past h =
    let none : x ≡ 0 = past zero (omega arith) (omega arith) in
    (omega arith, below_shown bound zero xs last some (λ i l u. past (suc i) (omega arith) (omega arith)) h)
below_shown bound (suc n) (x ∷ xs) last some past h = (h.0, below_shown bound n xs last some (λ i l u. past (suc i) (omega arith) (omega arith)) h.1)

pub overflow_shown : (problem : Problem) (cut : Option (List ℕ)) (head : ℕ × ℕ) (target : ℕ) (w : Pair Terms Effort) → IsProblem problem → IsOverflowingBelow problem cut head target (components w)
    → EachBelow (2 ^ 64) (take (length problem.vector) (components w) ++ w.second.count ∷ []) → ⊥
overflow_shown problem cut head target w k h below =
    h.overflow.unfit (below_shown (2 ^ 64) (length problem.vector) (take 5 (components w)) w.second.count (omega arith)
    (λ i past low. take_at 5 (components w) i (pops_at problem k head.0 head.1 target (components w) h.overflow.wanted.least.0 i past (omega (arith, low)))) below)
