-- Comparisons in two steps: where the first step ties, the second decides.
use Rattle.std.specs.Prelude.{◌≡◌, ◌≢◌, ◌⊎◌, refl}
use Rattle.std.specs.declared.cmp.Ordering.{Ordering}
use Rattle.std.specs.declared.cmp.Ordering.TheVariants.{Less, Equal, Greater}
use Rattle.std.specs.Ordering.{ordering_reverse, ordering_then}
use Rattle.std.proofs.Common.{inl, inr}

pub then_same : {a b c d : Ordering} → a ≡ c → b ≡ d → ordering_then a b ≡ ordering_then c d
then_same first second = cc

pub then_turned : (a b c d : Ordering) → a ≡ ordering_reverse b → c ≡ ordering_reverse d → ordering_then a c ≡ ordering_reverse (ordering_then b d)
then_turned a Less c d first second = rw first refl
then_turned a Equal c d first second = rw (first, second) refl
then_turned a Greater c d first second = rw first refl

pub then_decided : (a b : Ordering) → a ≢ Equal → ordering_then a b ≡ a
then_decided Less b decided = refl
then_decided Equal b decided = absurd (decided refl)
then_decided Greater b decided = refl

pub then_tied : (a b : Ordering) → a ≡ Equal → ordering_then a b ≡ b
then_tied a b tie = rw tie refl

pub less_by_first : (a b : Ordering) → a ≡ Less → ordering_then a b ≡ Less
less_by_first a b less = rw less refl

pub less_by_second : (a b : Ordering) → a ≡ Equal → b ≡ Less → ordering_then a b ≡ Less
less_by_second a b tie less = rw tie less

pub less_parts : (a b : Ordering) → ordering_then a b ≡ Less → (a ≡ Less) ⊎ ((a ≡ Equal) × (b ≡ Less))
less_parts Less b less = inl refl
less_parts Equal b less = inr (refl, less)
less_parts Greater b less = cc

pub first_not_greater : (a b : Ordering) → ordering_then a b ≡ Less → a ≢ Greater
first_not_greater Less b less greater = cc
first_not_greater Equal b less greater = cc
first_not_greater Greater b less greater = cc

pub equal_parts : (a b : Ordering) → ordering_then a b ≡ Equal → (a ≡ Equal) × (b ≡ Equal)
equal_parts Less b equal = cc
equal_parts Equal b equal = (refl, equal)
equal_parts Greater b equal = cc

pub not_greater : (a b : Ordering) → a ≢ Greater → b ≢ Greater → ordering_then a b ≢ Greater
not_greater Less b first second greater = cc
not_greater Equal b first second greater = second greater
not_greater Greater b first second greater = first refl
