-- How many candidates there are: rules of listed heads with rows for what they write.
use Rattle.std.specs.Prelude.{ℕ, ◌==◌, ◌&&◌, Bool, cond, List}
use Rattle.std.specs.List.{sum_by, count_by}
use Rattle.wi_pds.specs.declared.rule.Word2.{Word2}
use Rattle.wi_pds.specs.declared.rule.Word2.TheVariants.{Empty, One, Two}
use Rattle.wi_pds.specs.declared.rule.Rule.{Rule}
use Rattle.wi_saturate.specs.declared.row.Row.{Row}

-- whether the row is from p with g
abbrev pub is_from : {W : Type 0} → ℕ → ℕ → Row W → Bool
is_from p g r = (r.p == p) && (r.g == g)

-- how many rows are from p with g
abbrev pub rows_from : {W : Type 0} → List (Row W) → ℕ → ℕ → ℕ
rows_from rows p g = count_by (is_from p g) rows

-- in how many ways rows stand for what a rule writes which goes to a state
abbrev pub ways : {W : Type 0} → List (Row W) → ℕ → Word2 → ℕ
ways rows to Empty = 1
ways rows to (One u) = rows_from rows to u
ways rows to (Two u v) = sum_by (λ r. cond (is_from to u r) (rows_from rows r.q v) 0) rows

-- how many candidates there are
abbrev pub candidates : {W : Type 0} → (ℕ → ℕ → List (Rule W)) → List (ℕ × ℕ) → List (Row W) → ℕ
candidates rules heads rows = sum_by (λ (h : ℕ × ℕ). sum_by (λ r. ways rows r.to r.word) (rules h.0 h.1)) heads
