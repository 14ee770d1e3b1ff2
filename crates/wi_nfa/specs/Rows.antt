-- Automata as rows of states.
use Rattle.std.specs.Prelude.{ℕ, ◌-◌, Bool, false, List, [], length, Option, Some, None, slice_get, slice_index_or, Vec}
use Rattle.std.specs.declared.alloc.Global.{Global}
use Rattle.wi_nfa.specs.Automata.{Automaton}

-- the states of a row, none where there is no row
abbrev pub items_of : Option (Vec ℕ Global) → List ℕ
items_of None = []
items_of (Some v) = v.items

-- the row of a state
abbrev pub row : List (Vec ℕ Global) → ℕ → List ℕ
row rows p = items_of (slice_get rows p)

-- whether the symbol is in the atom, where there is one
abbrev pub in_atom : {A : Type 0} → (A → ℕ → Bool) → Option A → ℕ → Bool
in_atom set None x = false
in_atom set (Some a) x = set a x

-- whether the atom of state q has the symbol: state 1 has the first atom
abbrev pub reads_at : {A : Type 0} → (A → ℕ → Bool) → List A → ℕ → ℕ → Bool
reads_at set atoms q x = in_atom set (slice_get atoms (q - 1)) x

-- an automaton as tables: the rows, the marks of the states that accept, and the atoms
pub record Tables (A : Type 0) : Type 0 where
  pub after : List (Vec ℕ Global)
  pub accepting : List Bool
  pub atoms : List A

-- the automaton of these tables
abbrev pub automaton_of : {A : Type 0} → (A → ℕ → Bool) → Tables A → Automaton
automaton_of set t = record {
  states = length t.after;
  next = λ p. row t.after p;
  reads = λ q x. reads_at set t.atoms q x;
  accepts = λ p. slice_index_or t.accepting p false;
}
