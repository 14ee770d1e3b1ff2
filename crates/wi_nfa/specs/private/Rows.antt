-- What the tables of an automaton keep.
use Rattle.std.specs.Prelude.{◌≡◌, ℕ, ◌<◌, List, length, Contains, Vec}
use Rattle.std.specs.List.Sorted.{IsStrictlyIncreasing}
use Rattle.std.specs.declared.alloc.Global.{Global}
use Rattle.wi_nfa.specs.Automata.{ListsRising}
use Rattle.wi_nfa.specs.Rows.{row}

-- the rows rise, and ahead is after turned round
pub record AreTables (after ahead : List (Vec ℕ Global)) : Type 0 where
  pub same_count : length ahead ≡ length after
  pub start : 0 < length after
  pub rising : (p : ℕ) → IsStrictlyIncreasing (row after p)
  pub inside : (p q : ℕ) → Contains (row after p) q → q < length after
  pub turned : (q : ℕ) → ListsRising (row ahead q) (λ p. Contains (row after p) q)
