-- How a refusal may end.
use Rattle.std.proofs.Common.{◌≡◌, ◌⊎◌, ℕ, nat_eq, false, inl, inr, refl}
use Rattle.wi_outcome.specs.Texts.{status_of}
use Rattle.wi_outcome.specs.declared.refusal.Refusal.{Refusal}

-- with want of memory, or with such a status; and no call failed
abbrev pub Ends : (ℕ → Type 0) → Refusal → Type 0
Ends P refusal = (nat_eq (status_of refusal) 10 ≡ false) × ((status_of refusal ≡ 11) ⊎ P (status_of refusal))

pub wanting : (P : ℕ → Type 0) (refusal : Refusal) → status_of refusal ≡ 11 → Ends P refusal
wanting P refusal is = (rw is refl, inl is)

-- what ends with such a status ends with one that follows from it
pub ends_as : (P Q : ℕ → Type 0) (refusal : Refusal) → ((status : ℕ) → P status → Q status) → Ends P refusal → Ends Q refusal
ends_as P Q refusal follows ends = (
  ends.0,
  elim ends.1 [
    | inl want ↦ inl want
    | inr due ↦ inr (follows (status_of refusal) due)
  ],
)
