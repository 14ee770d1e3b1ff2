-- What is left to do at the end of a run, operation by operation.
use Rattle.std.proofs.Common.{◌≡◌, ℕ, ◌+◌, ◌<◌, ◌≤◌, List, [], ◌∷◌, Option, Some, None, Result, Ok, Err, length, drop, slice_index_or, refl, ap, ◌∙◌, arith}
use Rattle.std.proofs.lemmas.Option.{slice_get-get_or}
use Rattle.std.proofs.lemmas.List.{drop_all}
use Rattle.wi_labels.specs.declared.ops.Op.{Op}
use Rattle.wi_labels.specs.Header.{Entry, after_op, outcome}
use Rattle.wi_labels.proofs.HeaderLemmas.{drop_at}
use Rattle.wi_world.specs.Runs.{work_before}

-- what one operation leaves, or that it isn't defined
one_defined : (op : Op) (old new : List Entry) → outcome 0 (op ∷ []) old ≡ Ok new → after_op op old ≡ Some new
one_defined op old new e = go (after_op op old) refl e
  where
    go : (o : Option (List Entry)) → after_op op old ≡ o → (elim o as (λ _. Result (List Entry) ℕ) [ Some next ↦ outcome 1 [] next | None ↦ Err 0 ]) ≡ Ok new → after_op op old ≡ Some new
    go None a h = cc
    go (Some next) a h = cc

one_undefined : (op : Op) (old : List Entry) (i : ℕ) → outcome 0 (op ∷ []) old ≡ Err i → after_op op old ≡ None
one_undefined op old i e = go (after_op op old) refl e
  where
    go : (o : Option (List Entry)) → after_op op old ≡ o → (elim o as (λ _. Result (List Entry) ℕ) [ Some next ↦ outcome 1 [] next | None ↦ Err 0 ]) ≡ Err i → after_op op old ≡ None
    go None a h = a
    go (Some next) a h = cc

module _ (ops : List Op) (i : ℕ) (d : Op) (within : i < length ops) where
  cut : drop i ops ≡ slice_index_or ops i d ∷ drop (i + 1) ops
  cut = drop_at ops i (slice_index_or ops i d) (slice_get-get_or ops i d within)

  -- an operation is defined, and the next ones are to be done
  pub work_on : (old new : List Entry) (whole : ℕ) → outcome 0 (slice_index_or ops i d ∷ []) old ≡ Ok new → i + work_before (drop i ops) old ≡ whole → i + 1 + work_before (drop (i + 1) ops) new ≡ whole
  work_on old new whole on so_far =
      let step : work_before (drop i ops) old ≡ 1 + work_before (drop (i + 1) ops) new = ap (λ (xs : List Op). work_before xs old) cut ∙ rw (one_defined (slice_index_or ops i d) old new on) refl in
      omega (arith, so_far, step)

  -- an operation isn't, and the labels stand
  pub work_off : (old new : List Entry) (j n whole : ℕ) → outcome 0 (slice_index_or ops i d ∷ []) old ≡ Err j → new ≡ old → n ≡ length new → i + work_before (drop i ops) old ≡ whole → i + n ≡ whole
  work_off old new j n whole off same is so_far =
      let step : work_before (drop i ops) old ≡ length old = ap (λ (xs : List Op). work_before xs old) cut ∙ rw (one_undefined (slice_index_or ops i d) old j off) refl in
      let long : length new ≡ length old = ap (λ (xs : List Entry). length xs) same in
      omega (arith, so_far, step, is, long)

-- all of them are
pub work_all : (ops : List Op) (i n : ℕ) (header : List Entry) (whole : ℕ) → length ops ≤ i → i ≤ length ops → n ≡ length header → i + work_before (drop i ops) header ≡ whole → length ops + n ≡ whole
work_all ops i n header whole past upto is so_far =
    let none : drop i ops ≡ [] = drop_all i ops past in
    let step : work_before (drop i ops) header ≡ length header = ap (λ (xs : List Op). work_before xs header) none in
    omega (arith, so_far, step, is, past, upto)
