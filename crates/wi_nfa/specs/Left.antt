-- The states that an iterator has left.
use Rattle.std.specs.Prelude.{ℕ, Bool, ◌||◌, List, filter}
use Rattle.wi_nfa.specs.declared.states.States.{States}
use Rattle.wi_nfa.specs.Rows.{reads_at}

-- of the states left those that the symbol leads to, or all of them
abbrev pub kept : {A : Type 0} → (A → ℕ → Bool) → Bool → List A → ℕ → List ℕ → List ℕ
kept set every atoms x left = filter (λ q. every || reads_at set atoms q x) left

-- the states that the iterator will give, in order
abbrev pub states_left : {A : Type 0} → (A → ℕ → Bool) → States A → List ℕ
states_left set s = kept set s.every s.atoms.now s.symbol.0 s.left.now
