-- A table of least summaries is one from which a run can be read.
use Rattle.std.specs.Prelude.{◌≡◌, ℕ, zero, suc, ◌+◌, ◌-◌, ◌≤◌, List, [], ◌∷◌, ◌++◌, Option, Some, None, IfSome, IsSome, option_map, length, slice_get, slice_index, refl}
use Rattle.std.proofs.Common.{sym, ap, ◌∙◌, subst, arith, length-append}
use Rattle.wi_weight.specs.Weights.{Scale, IsWeight}
use Rattle.wi_weight.specs.declared.kinds.Pair.{Pair}
use Rattle.wi_weight.specs.declared.kinds.Effort.{Effort}
use Rattle.wi_pds.specs.declared.rule.Rule.{Rule}
use Rattle.wi_pds.specs.declared.rule.RuleId.{RuleId}
use Rattle.wi_saturate.specs.declared.row.Row.{Row}
use Rattle.wi_saturate.specs.Rows.{IsFor}
use Rattle.wi_saturate.specs.LeastTables.{IsLeastTable}
use Rattle.wi_saturate.proofs.Elements.{get_last, same_some}
use Rattle.wi_witness.specs.GoalRuns.{IsNamedRun}
use Rattle.wi_witness.specs.Derivations.{IsDerivation, with_effort}

module _ {W : Type 0} (m : Scale) (c : W → List ℕ) (rules : ℕ → ℕ → List (Rule W)) (heads : List (ℕ × ℕ)) (goal : ℕ × ℕ × ℕ) (cut : Option (List ℕ)) (rows : List (Row W)) where
  last_of : (best : Option W)
      → IfSome (option_map c best) (λ b. (front : List (Row W)) × (row : Row W) × (rows ≡ front ++ row ∷ []) × IsFor goal.0 goal.1 goal.2 row × (c row.weight ≡ b))
      → IfSome best (λ b. (front : List (Row W)) × (row : Row W) × (rows ≡ front ++ row ∷ []) × IsFor goal.0 goal.1 goal.2 row × (c row.weight ≡ c b))
  last_of None h = tt
  last_of (Some b) h = h

  -- what least answers can be unfolded
  pub least_derivation : (best : Option W) → IsLeastTable m c rules heads goal cut rows (option_map c best) → IsDerivation m c rules goal rows best
  least_derivation best table = record {
    made = λ i row at. (table.settled i row at).made;
    last = last_of best table.last;
  }

module _ {W : Type 0} (m : Scale) (c : W → List ℕ) (rules : ℕ → ℕ → List (Rule W)) (goal : ℕ × ℕ × ℕ) (rows : List (Row W)) where
  last_at : (front : List (Row W)) (row : Row W) → rows ≡ front ++ row ∷ [] → slice_get rows (length rows - 1) ≡ Some row
  last_at front row e =
      let more : length rows ≡ length front + 1 = ap length e ∙ length-append front (row ∷ []) in
      let place : length rows - 1 ≡ length front = omega (arith, more) in
      ap (λ i. slice_get rows i) place ∙ ap (λ rs. slice_get rs (length front)) e ∙ get_last front row

  -- a table with a goal has a row
  pub some_row : (best : Option W) → IsDerivation m c rules goal rows best → IsSome best → 1 ≤ length rows
  some_row None derived h = cc
  some_row (Some b) derived h =
      let more : length rows ≡ length derived.last.0 + 1 = ap length derived.last.2 ∙ length-append derived.last.0 (derived.last.1 ∷ []) in
      omega (arith, more)

  -- the last row's weight is the goal's
  pub last_weight : (best : Option W) (row : Row W) → IsDerivation m c rules goal rows best → slice_get rows (length rows - 1) ≡ Some row → IfSome best (λ w. c row.weight ≡ c w)
  last_weight None row derived at = tt
  last_weight (Some b) row derived at =
      let same : derived.last.1 ≡ row = same_some (sym (last_at derived.last.0 derived.last.1 derived.last.2) ∙ at) in
      subst (λ r. c r.weight ≡ c b) same derived.last.4

  -- what the last row stands for is a run to the goal
  pub last_run : (best : Option W) (ids : List RuleId) → IsDerivation m c rules goal rows best
      → ((row : Row W) → slice_get rows (length rows - 1) ≡ Some row → IsNamedRun m c rules row.p row.g row.q ids (c row.weight))
      → IfSome best (λ w. IsNamedRun m c rules goal.0 goal.1 goal.2 ids (c w))
  last_run None ids derived run = tt
  last_run (Some b) ids derived run =
      let row : Row W = derived.last.1 in
      let is : IsFor goal.0 goal.1 goal.2 row = derived.last.3 in
      subst (λ x. IsNamedRun m c rules goal.0 goal.1 goal.2 ids x) derived.last.4
      (subst (λ x. IsNamedRun m c rules goal.0 goal.1 x ids (c row.weight)) is.2
      (subst (λ x. IsNamedRun m c rules goal.0 x row.q ids (c row.weight)) is.1
      (subst (λ x. IsNamedRun m c rules x row.g row.q ids (c row.weight)) is.0 (run row (last_at derived.last.0 row derived.last.2)))))

effort_at : (n : ℕ) (xs : List ℕ) (e : ℕ) → length xs ≡ n → slice_index (xs ++ e ∷ []) n ≡ e
effort_at zero [] e h = refl
effort_at zero (x ∷ xs) e h = cc
effort_at (suc n) [] e h = cc
effort_at (suc n) (x ∷ xs) e h = effort_at n xs e (omega arith)

-- weights with the same components have the same effort
pub same_effort : {A : Type 0} (m : Scale) (c : A → List ℕ) → ((a : A) → IsWeight m (c a)) → (best : Option (Pair A Effort)) (w : Pair A Effort)
    → IfSome best (λ b. with_effort c w ≡ with_effort c b) → IfSome best (λ b. w.second.count ≡ b.second.count)
same_effort m c admitted None w e = tt
same_effort m c admitted (Some b) w e =
    sym (effort_at m.arity (c w.first) w.second.count (admitted w.first)) ∙ ap (λ xs. slice_index xs m.arity) e ∙ effort_at m.arity (c b.first) b.second.count (admitted b.first)
