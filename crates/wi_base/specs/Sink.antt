-- What is seen of a sink, and how the count of its faults moves.
use Rattle.std.specs.Prelude.{◌≡◌, ◌⊎◌, ℕ, ◌<◌, ◌-◌, ◌^◌, Bool, List, Result, Ok, Err}
use Rattle.wi_base.specs.declared.sink.PutRefused.{PutRefused}
use Rattle.wi_base.specs.declared.sink.PutRefused.TheVariants.{Failed, Memory}

-- a sink at a moment: whether it tells what was written; the bytes written so far, which count only where it tells them; and
-- how many calls failed, up to 2^64 - 1
pub record SinkSeen : Type 0 where
  pub told : Bool
  pub written : List ℕ
  pub faults : ℕ

-- a failed call raises the count, or leaves it at its limit; another leaves it
abbrev pub Counts : {A : Type 0} → Result A PutRefused → ℕ → ℕ → Type 0
Counts (Err Failed) old new = (old < new) ⊎ ((old ≡ 2 ^ 64 - 1) × (new ≡ 2 ^ 64 - 1))
Counts (Err Memory) old new = new ≡ old
Counts (Ok x) old new = new ≡ old
