-- The first byte at which a machine that reads bytes stops.
use Rattle.std.specs.Prelude.{ℕ, ◌+◌, Bool, true, false, List, [], ◌∷◌, Option, Some, None}

abbrev pub at_end : Bool → ℕ → Option ℕ
at_end true i = None
at_end false i = Some i

abbrev pub goes_on : {S : Type 0} → Option S → ℕ → (S → Option ℕ) → Option ℕ
goes_on None i go = Some i
goes_on (Some t) i go = go t

-- from state s, where i bytes were read: the place of the first byte that leads to no state, or of the end if the text may
-- not end there
abbrev pub first_stop : {S : Type 0} → (S → ℕ → Option S) → (S → Bool) → S → ℕ → List ℕ → Option ℕ
first_stop next ends s i [] = at_end (ends s) i
first_stop next ends s i (b ∷ rest) = goes_on (next s b) i (λ t. first_stop next ends t (i + 1) rest)
