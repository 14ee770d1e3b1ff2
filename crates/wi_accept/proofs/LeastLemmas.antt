-- Among runs that lead to one place one is least: weights don't fall for ever.
use Rattle.std.proofs.Common.{◌≡◌, ℕ, zero, suc, ◌<◌, List, [], ◌∷◌, length, refl, arith, sym, ◌∙◌, subst, inl, inr}
use Rattle.std.specs.Cmp.Lexicographic.{slice_cmp}
use Rattle.std.specs.Ordering.{nat_cmp}
use Rattle.std.specs.declared.cmp.Ordering.TheVariants.{Less}
use Rattle.wi_weight.specs.declared.kinds.Pair.{Pair}
use Rattle.wi_weight.specs.declared.kinds.Terms.{Terms}
use Rattle.wi_weight.specs.declared.kinds.Effort.{Effort}
use Rattle.wi_weight.specs.Weights.{AtMost}
use Rattle.wi_weight.specs.lemmas.Order.{at_most_self, at_most_trans, at_most_below, not_below}
use Rattle.wi_weight.specs.lemmas.Then.{less_parts}
use Rattle.wi_quantity.specs.Weighing.{components}
use Rattle.wi_pds.specs.declared.rule.Rule.{Rule}
use Rattle.wi_pds.specs.Runs.{Pops, Least}
use Rattle.wi_build.specs.Systems.{scale}
use Rattle.wi_accept.proofs.OrderLemmas.{lesser_number, equal_number, below_before}
use Rattle.wi_accept.proofs.WeightLemmas.{scale_laws, pops_weight}

-- what holds of a number where it holds of all lower ones holds of each
each_number : (P : ℕ → Type 0) → ((n : ℕ) → ((k : ℕ) → k < n → P k) → P n) → (n k : ℕ) → k < n → P k
each_number P step zero k h = absurd (omega (arith, h))
each_number P step (suc n) k h = step k (λ j l. each_number P step n j (omega (arith, h, l)))

-- what comes before a list has a lesser first number, or the same one and a rest that comes before
before_cases : (n : ℕ) (P : List ℕ → Type 0) (b : ℕ) (v : List ℕ) → ((k : ℕ) → k < b → (u : List ℕ) → length u ≡ n → P (k ∷ u))
    → ((u : List ℕ) → length u ≡ n → slice_cmp nat_cmp u v ≡ Less → P (b ∷ u)) → (x : List ℕ) → length x ≡ suc n → slice_cmp nat_cmp x (b ∷ v) ≡ Less → P x
before_cases n P b v lesser same [] h less = absurd (omega (arith, h))
before_cases n P b v lesser same (y ∷ u) h less = elim (less_parts (nat_cmp y b) (slice_cmp nat_cmp u v) less) [
  | inl l ↦ lesser y (lesser_number y b l) u (omega (arith, h))
  | inr t ↦ subst (λ (k : ℕ). P (k ∷ u)) (sym (equal_number y b t.0)) (same u (omega (arith, h)) t.1)
]

none_before : (x : List ℕ) → slice_cmp nat_cmp x [] ≡ Less → ⊥
none_before [] h = cc
none_before (y ∷ x) h = cc

-- what holds of a list of n numbers where it holds of all such that come before it holds of each
each_list : (n : ℕ) (P : List ℕ → Type 0) → ((w : List ℕ) → length w ≡ n → ((x : List ℕ) → length x ≡ n → slice_cmp nat_cmp x w ≡ Less → P x) → P w)
    → (w : List ℕ) → length w ≡ n → P w
each_list zero P step [] h = step [] refl (λ x k less. absurd (none_before x less))
each_list zero P step (a ∷ w) h = absurd (omega (arith, h))
each_list (suc n) P step [] h = absurd (omega (arith, h))
each_list (suc n) P step (a ∷ w) h =
    each_number (λ b. (v : List ℕ) → length v ≡ n → P (b ∷ v))
    (λ b lesser. each_list n (λ v. P (b ∷ v)) (λ v k same. step (b ∷ v) (omega (arith, k)) (before_cases n P b v lesser same)))
    (suc a) a (omega arith) w (omega (arith, h))

-- a run of this weight, and no least one of at most it, don't go together
abbrev HasLeast : (ℕ → ℕ → List (Rule (Pair Terms Effort))) → ℕ → ℕ → ℕ → List ℕ → Type 0
HasLeast rules p g q w = Pops scale components rules p g q w → ((x : List ℕ) → Least scale components rules p g q x → AtMost scale x w → ⊥) → ⊥

-- where a run leads somewhere, a run of at most its weight is least
pub least_there : (rules : ℕ → ℕ → List (Rule (Pair Terms Effort))) (p g q : ℕ) (w : List ℕ) → Pops scale components rules p g q w
    → ((x : List ℕ) → Least scale components rules p g q x → AtMost scale x w → ⊥) → ⊥
least_there rules p g q w pops none = each_list 6 (HasLeast rules p g q) step w (pops_weight rules p g q w pops) pops none
  where
    step : (w : List ℕ) → length w ≡ 6 → ((x : List ℕ) → length x ≡ 6 → slice_cmp nat_cmp x w ≡ Less → HasLeast rules p g q x) → HasLeast rules p g q w
    step w six lighter pops none = none w (pops, most) (at_most_self scale_laws w six)
      where
        most : (x : List ℕ) → Pops scale components rules p g q x → AtMost scale w x
        most x run =
            let x_six = pops_weight rules p g q x run in
            not_below scale_laws w x six x_six (λ below. lighter x x_six (below_before x w (x_six ∙ sym six) below) run (λ y least y_most.
            none y least (at_most_trans scale_laws y x w (pops_weight rules p g q y least.0) x_six six y_most (at_most_below scale_laws x w below))))
