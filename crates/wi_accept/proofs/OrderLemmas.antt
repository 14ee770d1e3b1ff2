-- The order of weights is the one by which runs are compared.
use Rattle.std.proofs.Common.{◌≡◌, ℕ, zero, suc, ◌<◌, Bool, true, false, ◌&&◌, nat_eq, nat_lt, List, [], ◌∷◌, take, drop, length, refl, arith, ap, sym, ◌∙◌, inl, inr, Option, Some, None}
use Rattle.std.specs.Cmp.Lexicographic.{slice_cmp}
use Rattle.std.specs.Ordering.{nat_cmp, ordering_then}
use Rattle.std.specs.declared.cmp.Ordering.{Ordering}
use Rattle.std.specs.declared.cmp.Ordering.TheVariants.{Less, Equal, Greater}
use Rattle.std.proofs.lemmas.Bool.{and_parts, and_from, or_left, or_right, eqb-true, eq-eqb, ltb-true, lt-ltb, false_from_ne_true}
use Rattle.std.proofs.lemmas.Bool.Decides.{nat_tests}
use Rattle.std.specs.Prelude.{IfSome}
use Rattle.wi_weight.specs.Weights.{IsWeight, AtMost, Below}
use Rattle.wi_weight.specs.lemmas.Order.{below_or_at_most}
use Rattle.wi_weight.specs.lemmas.Then.{then_tied, less_parts}
use Rattle.wi_world.specs.Runs.{is_less}
use Rattle.wi_pds.specs.Closed.{Within}
use Rattle.wi_trees.specs.Trees.{IsBelow}
use Rattle.wi_build.specs.Systems.{scale}
use Rattle.wi_accept.proofs.WeightLemmas.{scale_laws}

pub then_assoc : (a b c : Ordering) → ordering_then (ordering_then a b) c ≡ ordering_then a (ordering_then b c)
then_assoc Less b c = refl
then_assoc Equal b c = refl
then_assoc Greater b c = refl

-- the first numbers in dictionary order, and then the others: this is the dictionary order of all
pub parts_compared : (n : ℕ) (a b : List ℕ) → length a ≡ length b
    → ordering_then (slice_cmp nat_cmp (take n a) (take n b)) (slice_cmp nat_cmp (drop n a) (drop n b)) ≡ slice_cmp nat_cmp a b
parts_compared zero a b h = refl
parts_compared (suc n) [] [] h = refl
parts_compared (suc n) [] (y ∷ b) h = absurd (omega (arith, h))
parts_compared (suc n) (x ∷ a) [] h = absurd (omega (arith, h))
parts_compared (suc n) (x ∷ a) (y ∷ b) h =
    then_assoc (nat_cmp x y) (slice_cmp nat_cmp (take n a) (take n b)) (slice_cmp nat_cmp (drop n a) (drop n b))
    ∙ ap (λ o. ordering_then (nat_cmp x y) o) (parts_compared n a b (omega (arith, h)))

greater_number : (x y : ℕ) → y < x → nat_cmp x y ≡ Greater
greater_number x y h = grind (arith, nat_tests)

same_number : (x y : ℕ) → y ≡ x → nat_cmp x y ≡ Equal
same_number x y h = grind (arith, nat_tests)

greater_first : (a b : Ordering) → a ≡ Greater → ordering_then a b ≡ Greater
greater_first a b h = rw h refl

-- what a list is greater than is less
less_greater : (a b : List ℕ) → is_less b a ≡ true → slice_cmp nat_cmp a b ≡ Greater
less_greater [] [] h = cc
less_greater [] (y ∷ b) h = cc
less_greater (x ∷ a) [] h = cc
less_greater (x ∷ a) (y ∷ b) h = go (nat_lt y x) refl (less_greater a b)
  where
    go : (c : Bool) → nat_lt y x ≡ c → (is_less b a ≡ true → slice_cmp nat_cmp a b ≡ Greater) → slice_cmp nat_cmp (x ∷ a) (y ∷ b) ≡ Greater
    go true e ih = greater_first (nat_cmp x y) (slice_cmp nat_cmp a b) (greater_number x y (ltb-true y x e))
    go false e ih =
        let both : (nat_eq y x && is_less b a) ≡ true = rw e at h in
        let p = and_parts (nat_eq y x) (is_less b a) both in
        then_tied (nat_cmp x y) (slice_cmp nat_cmp a b) (same_number x y (eqb-true y x p.0)) ∙ ih p.1

-- a weight that is no more than another: the other isn't less
pub not_less : (w x : List ℕ) → length w ≡ length x → AtMost scale w x → is_less x w ≡ false
not_less w x h most = false_from_ne_true (is_less x w) (λ less. most (parts_compared 5 w x h ∙ less_greater w x less))

-- numbers by their comparison
pub lesser_number : (x y : ℕ) → nat_cmp x y ≡ Less → x < y
lesser_number x y h = grind (arith, nat_tests)

pub equal_number : (x y : ℕ) → nat_cmp x y ≡ Equal → x ≡ y
equal_number x y h = grind (arith, nat_tests)

-- what comes before in dictionary order is less, where no list ends before the other
before_less : (a b : List ℕ) → length a ≡ length b → slice_cmp nat_cmp a b ≡ Less → is_less a b ≡ true
before_less [] [] k h = cc
before_less [] (y ∷ b) k h = absurd (omega (arith, k))
before_less (x ∷ a) [] k h = cc
before_less (x ∷ a) (y ∷ b) k h = elim (less_parts (nat_cmp x y) (slice_cmp nat_cmp a b) h) [
  | inl l ↦ or_left (nat_lt x y) (nat_eq x y && is_less a b) (lt-ltb x y (lesser_number x y l))
  | inr t ↦ or_right (nat_lt x y) (nat_eq x y && is_less a b)
      (and_from (nat_eq x y) (is_less a b) (eq-eqb x y (equal_number x y t.0)) (before_less a b (omega (arith, k)) t.1))
]

-- a weight below another comes before it in dictionary order
pub below_before : (x w : List ℕ) → length x ≡ length w → Below scale x w → slice_cmp nat_cmp x w ≡ Less
below_before x w h below = sym (parts_compared 5 x w h) ∙ below

-- and is less
pub below_less : (x w : List ℕ) → length x ≡ length w → Below scale x w → is_less x w ≡ true
below_less x w h below = before_less x w h (below_before x w h below)

-- a weight that is less is below
pub less_below : (x w : List ℕ) → IsWeight scale x → IsWeight scale w → is_less x w ≡ true → Below scale x w
less_below x w six other less = elim (below_or_at_most scale_laws x w six other) [
  | inl below ↦ below
  | inr most ↦ (let more : true ≡ false = sym less ∙ not_less w x (other ∙ sym six) most in cc)
]

-- below a bound, in the order of runs and in that of weights
pub below_within : (bound : Option (List ℕ)) → IfSome bound (λ b. IsWeight scale b) → (w : List ℕ) → IsWeight scale w → IsBelow bound w → Within scale bound w
below_within None is w six below = tt
below_within (Some b) is w six below = less_below w b six is below

pub within_below : (bound : Option (List ℕ)) → IfSome bound (λ b. IsWeight scale b) → (w : List ℕ) → IsWeight scale w → Within scale bound w → IsBelow bound w
within_below None is w six within = tt
within_below (Some b) is w six within = below_less w b (six ∙ sym is) within
