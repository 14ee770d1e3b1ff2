-- Sets of states that words lead to.
use Rattle.std.specs.Prelude.{ℕ, ◌<◌, Bool, false, ◌↔◌, IsTrue, List, slice_index_or}
use Rattle.wi_nfa.specs.Automata.{Automaton, Steps, AcceptsFrom}

-- from some marked state below k the symbol leads to t
abbrev pub LedFrom : Automaton → List Bool → ℕ → ℕ → ℕ → Type 0
LedFrom m marks k x t = (p : ℕ) × (p < k) × IsTrue (slice_index_or marks p false) × Steps m p x t

-- from some marked state below k an accepting walk spells the word
abbrev pub AcceptedFrom : Automaton → List Bool → ℕ → List ℕ → Type 0
AcceptedFrom m marks k w = (p : ℕ) × (p < k) × IsTrue (slice_index_or marks p false) × AcceptsFrom m p w

-- these are the marks of the states that the symbol leads to from the marked states
pub record AreLed (m : Automaton) (old : List Bool) (x : ℕ) (new : List Bool) : Type 0 where
  pub each : (t : ℕ) → IsTrue (slice_index_or new t false) ↔ LedFrom m old m.states x t
