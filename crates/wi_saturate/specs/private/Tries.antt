-- The candidates that are pushed, head by head and rule by rule.
use Rattle.std.specs.Prelude.{◌≡◌, ℕ, ◌≤◌, cond, List, ◌++◌, slice_index_or}
use Rattle.std.specs.List.{sum_by}
use Rattle.wi_pds.specs.declared.rule.Word2.{Word2}
use Rattle.wi_pds.specs.declared.rule.Word2.TheVariants.{Empty, One, Two}
use Rattle.wi_saturate.specs.declared.row.Row.{Row}
use Rattle.wi_saturate.specs.declared.rules.Ruled.{Ruled}
use Rattle.wi_saturate.specs.Tries.{is_from, ways}

-- in how many ways rows stand for what the rules of a list write
abbrev pub all_ways : {W : Type 0} → List (Ruled W) → List (Row W) → ℕ
all_ways flat rows = sum_by (λ f. ways rows f.rule.to f.rule.word) flat

-- 1 for a rule that takes its symbol off
abbrev pub pop_ways : Word2 → ℕ
pop_ways Empty = 1
pop_ways (One u) = 0
pop_ways (Two u v) = 0

-- 1 for a rule that writes the row's symbol alone
abbrev pub one_ways : {W : Type 0} → Row W → ℕ → Word2 → ℕ
one_ways r to Empty = 0
one_ways r to (One u) = cond (is_from to u r) 1 0
one_ways r to (Two u v) = 0

-- for a rule of two symbols, the first of which the row is for: what F says of the head that it waits for
abbrev pub begun : {W : Type 0} → (ℕ → ℕ → ℕ) → Row W → ℕ → Word2 → ℕ
begun F r to Empty = 0
begun F r to (One u) = 0
begun F r to (Two u v) = cond (is_from to u r) (F r.q v) 0

-- the sum of it over rows
abbrev pub all_begun : {W : Type 0} → (ℕ → ℕ → ℕ) → List (Row W) → ℕ → Word2 → ℕ
all_begun F rows to Empty = 0
all_begun F rows to (One u) = 0
all_begun F rows to (Two u v) = sum_by (λ r. cond (is_from to u r) (F r.q v) 0) rows

-- what F says of the head at a place
abbrev pub of_head : (ℕ → ℕ → ℕ) → List (ℕ × ℕ) → ℕ → ℕ
of_head F heads place = F (slice_index_or heads place (0, 0)).0 (slice_index_or heads place (0, 0)).1

-- the list has further places, and what a function says of their heads sums up to at most the bound
abbrev pub IsMore : List (ℕ × ℕ) → List ℕ → List ℕ → ((ℕ → ℕ → ℕ) → ℕ) → Type 0
IsMore heads old new bound = (more : List ℕ) × (new ≡ old ++ more) × ((F : ℕ → ℕ → ℕ) → sum_by (of_head F heads) more ≤ bound F)
