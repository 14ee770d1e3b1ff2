-- The positions of an expression are the numbers from n + 1 to n + position_count.
use Rattle.std.proofs.Common.{ℕ, ◌+◌, ◌<◌, ◌≤◌, inl, inr, arith}
use Rattle.wi_regex.specs.declared.regex.Regex.{Regex}
use Rattle.wi_regex.specs.declared.regex.Regex.TheVariants.{Atom, Concat', Either', Star', Plus', Maybe'}
use Rattle.wi_regex.specs.Matching.{position_count}
use Rattle.wi_nfa.specs.Positions.{BeginsAt, EndsAt, Follows}

pub record Within (n k p : ℕ) : Type 0 where
  pub above : n < p
  pub upto : p ≤ n + k

pub within_left : (n j k p : ℕ) → Within n j p → Within n (j + k) p
within_left n j k p w = record { above = w.above; upto = omega arith }

pub within_right : (n j k p : ℕ) → Within (n + j) k p → Within n (j + k) p
within_right n j k p w = record { above = omega arith; upto = omega arith }

pub apart : {X : Type 0} (n j k p : ℕ) → Within n j p → Within (n + j) k p → X
apart n j k p v w = absurd (omega arith)

pub begins_within : {A : Type 0} (n : ℕ) (r : Regex A) (q : ℕ) → BeginsAt n r q → Within n (position_count r) q
begins_within n (Atom a) q h = record { above = omega arith; upto = omega arith }
begins_within n (Concat' _ a _ b) q h =
    elim h [ inl e ↦ within_left _ _ _ _ (begins_within n a q e) | inr e ↦ within_right _ _ _ _ (begins_within (n + position_count a) b q e.1) ]
begins_within n (Either' _ a _ b) q h =
    elim h [ inl e ↦ within_left _ _ _ _ (begins_within n a q e) | inr e ↦ within_right _ _ _ _ (begins_within (n + position_count a) b q e) ]
begins_within n (Star' _ a) q h = begins_within n a q h
begins_within n (Plus' _ a) q h = begins_within n a q h
begins_within n (Maybe' _ a) q h = begins_within n a q h

pub ends_within : {A : Type 0} (n : ℕ) (r : Regex A) (q : ℕ) → EndsAt n r q → Within n (position_count r) q
ends_within n (Atom a) q h = record { above = omega arith; upto = omega arith }
ends_within n (Concat' _ a _ b) q h =
    elim h [ inl e ↦ within_right _ _ _ _ (ends_within (n + position_count a) b q e) | inr e ↦ within_left _ _ _ _ (ends_within n a q e.1) ]
ends_within n (Either' _ a _ b) q h =
    elim h [ inl e ↦ within_left _ _ _ _ (ends_within n a q e) | inr e ↦ within_right _ _ _ _ (ends_within (n + position_count a) b q e) ]
ends_within n (Star' _ a) q h = ends_within n a q h
ends_within n (Plus' _ a) q h = ends_within n a q h
ends_within n (Maybe' _ a) q h = ends_within n a q h

pub follows_within : {A : Type 0} (n : ℕ) (r : Regex A) (p q : ℕ) → Follows n r p q → Within n (position_count r) p × Within n (position_count r) q
follows_within n (Atom a) p q h = absurd h
follows_within n (Concat' _ a _ b) p q h =
    elim h [
      | inl e ↦ let w = follows_within n a p q e in (within_left _ _ _ _ w.0, within_left _ _ _ _ w.1)
      | inr f ↦ elim f as (λ _. Within n (position_count a + position_count b) p × Within n (position_count a + position_count b) q) [
        | inl e ↦ let w = follows_within (n + position_count a) b p q e in (within_right _ _ _ _ w.0, within_right _ _ _ _ w.1)
        | inr e ↦ (within_left _ _ _ _ (ends_within n a p e.0), within_right _ _ _ _ (begins_within (n + position_count a) b q e.1))
      ]
    ]
follows_within n (Either' _ a _ b) p q h =
    elim h [
      | inl e ↦ let w = follows_within n a p q e in (within_left _ _ _ _ w.0, within_left _ _ _ _ w.1)
      | inr e ↦ let w = follows_within (n + position_count a) b p q e in (within_right _ _ _ _ w.0, within_right _ _ _ _ w.1)
    ]
follows_within n (Star' _ a) p q h =
    elim h [ inl e ↦ follows_within n a p q e | inr e ↦ (ends_within n a p e.0, begins_within n a q e.1) ]
follows_within n (Plus' _ a) p q h =
    elim h [ inl e ↦ follows_within n a p q e | inr e ↦ (ends_within n a p e.0, begins_within n a q e.1) ]
follows_within n (Maybe' _ a) p q h = follows_within n a p q h
