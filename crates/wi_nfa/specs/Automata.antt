-- Automata over symbols. State 0 is the start.
use Rattle.std.specs.Prelude.{◌≡◌, ℕ, ◌+◌, Bool, true, ◌⊎◌, ◌↔◌, IsTrue, List, [], ◌∷◌, Contains}
use Rattle.std.specs.List.Sorted.{IsStrictlyIncreasing}
use Rattle.wi_regex.specs.declared.regex.Regex.{Regex}
use Rattle.wi_regex.specs.Matching.{position_count, is_empty_word_in}
use Rattle.wi_nfa.specs.Positions.{BeginsAt, EndsAt, Follows, Agrees}

-- how many states there are; the states that may come next after one; whether a state is entered by a symbol; whether it accepts
pub record Automaton : Type 0 where
  pub states : ℕ
  pub next : ℕ → List ℕ
  pub reads : ℕ → ℕ → Bool
  pub accepts : ℕ → Bool

-- from state p the symbol leads to state q
abbrev pub Steps : Automaton → ℕ → ℕ → ℕ → Type 0
Steps m p x q = Contains (m.next p) q × (m.reads q x ≡ true)

-- a walk from p to q that spells the word
abbrev pub Walk : Automaton → ℕ → List ℕ → ℕ → Type 0
Walk m p [] q = p ≡ q
Walk m p (x ∷ w) q = (t : ℕ) × Steps m p x t × Walk m t w q

-- a walk from p to an accepting state spells the word
abbrev pub AcceptsFrom : Automaton → ℕ → List ℕ → Type 0
AcceptsFrom m p w = (q : ℕ) × Walk m p w q × IsTrue (m.accepts q)

-- the numbers of which P holds, in rising order
pub record ListsRising (xs : List ℕ) (P : ℕ → Type 0) : Type 0 where
  pub rising : IsStrictlyIncreasing xs
  pub each : (t : ℕ) → Contains xs t ↔ P t

-- state q may come next after state p: state i stands for position i
abbrev pub MayFollow : {A : Type 0} → Regex A → ℕ → ℕ → Type 0
MayFollow r p q = ((p ≡ 0) × BeginsAt 0 r q) ⊎ Follows 0 r p q

-- a word may end at state p
abbrev pub MayEnd : {A : Type 0} → Regex A → ℕ → Type 0
MayEnd r p = ((p ≡ 0) × IsTrue (is_empty_word_in r)) ⊎ EndsAt 0 r p

-- the position automaton of an expression
pub record IsPositionAutomaton {A : Type 0} (set : A → ℕ → Bool) (r : Regex A) (m : Automaton) : Type 0 where
  pub states : m.states ≡ position_count r + 1
  pub next : (p : ℕ) → ListsRising (m.next p) (MayFollow r p)
  pub accepts : (p : ℕ) → IsTrue (m.accepts p) ↔ MayEnd r p
  pub sets : Agrees set m.reads 0 r
