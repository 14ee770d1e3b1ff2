-- Lists of states in rising order, and tables of them.
use Rattle.std.proofs.Common.{◌≡◌, ℕ, zero, suc, ◌+◌, ◌<◌, ◌≤◌, Bool, true, false, ◌⊎◌, IsTrue, List, [], ◌∷◌, ◌++◌, length, Option, Some, None, get_or, Vec, vec_len, Contains, refl, sym, ap, ◌∙◌, inl, inr, subst, arith}
use Rattle.std.specs.Prelude.{slice_get, filter}
use Rattle.std.specs.List.{range_with_len}
use Rattle.std.specs.List.Sorted.{IsStrictlyIncreasing}
use Rattle.std.specs.declared.alloc.Global.{Global}
use Rattle.std.proofs.lemmas.Option.{slice_get_past, slice_get_cases}
use Rattle.wi_nfa.specs.Automata.{ListsRising}
use Rattle.wi_nfa.specs.private.Marks.{in_row, marked, IsSquare}
use Rattle.wi_nfa.specs.Rows.{items_of, row}
use Rattle.std.proofs.lemmas.List.FromFn.{length-range_with_len, get_or-range_with_len}
use Rattle.std.proofs.lemmas.List.Kept.{IsStrictlyIncreasing-filter}
use Rattle.wi_nfa.proofs.Marking.{nothing_in}
use Rattle.wi_nfa.proofs.Reading.{from_filter, into_filter}

range_rises : (n : ℕ) → IsStrictlyIncreasing (range_with_len 0 n)
range_rises n k h =
    let count = length-range_with_len 0 n in
    let here = get_or-range_with_len 0 n k 0 (omega arith) in
    let next = get_or-range_with_len 0 n (k + 1) 0 (omega arith) in
    omega arith

in_range : (n t : ℕ) → t < n → Contains (range_with_len 0 n) t
in_range n t lt =
    let count = length-range_with_len 0 n in
    let inside : t < length (range_with_len 0 n) = omega arith in
    let here : 0 + t ≡ t = omega arith in
    (t, inside, get_or-range_with_len 0 n t t lt ∙ here)

-- the numbers below n that pass a test
pub passed_rise : (test : ℕ → Bool) (n : ℕ) (xs : List ℕ) → xs ≡ filter test (range_with_len 0 n) → ((t : ℕ) → IsTrue (test t) → t < n) → ListsRising xs (λ t. IsTrue (test t))
passed_rise test n xs e below = subst (λ z. ListsRising z (λ t. IsTrue (test t))) (sym e) (record {
  rising = IsStrictlyIncreasing-filter test (range_with_len 0 n) (range_rises n);
  each = λ t. (λ m. (from_filter test (range_with_len 0 n) t m).1, λ h. into_filter test (range_with_len 0 n) t (in_range n t (below t h)) h);
})

pub lists_nothing : (P : ℕ → Type 0) → ((t : ℕ) → P t → ⊥) → ListsRising [] P
lists_nothing P none = record { rising = λ k h. absurd (omega arith); each = λ t. (λ m. nothing_in t m, λ h. absurd (none t h)) }

get_push_same : {X : Type 0} (xs : List X) (x : X) → slice_get (xs ++ x ∷ []) (length xs) ≡ Some x
get_push_same [] x = refl
get_push_same (y ∷ xs) x = get_push_same xs x

get_push_before : {X : Type 0} (xs : List X) (x : X) (k : ℕ) → k < length xs → slice_get (xs ++ x ∷ []) k ≡ slice_get xs k
get_push_before [] x k h = absurd (omega arith)
get_push_before (y ∷ xs) x zero h = refl
get_push_before (y ∷ xs) x (suc k) h = get_push_before xs x k (omega arith)

pub row_push : (rows : List (Vec ℕ Global)) (v : Vec ℕ Global) (n : ℕ) (Q : ℕ → ℕ → Type 0) → length rows ≡ n →
    ((k : ℕ) → k < n → ListsRising (row rows k) (Q k)) → ListsRising v.items (Q n) →
    (k : ℕ) → k < n + 1 → ListsRising (row (rows ++ v ∷ []) k) (Q k)
row_push rows v n Q count before new k h =
    elim (cases k h) as (λ _. ListsRising (row (rows ++ v ∷ []) k) (Q k)) [
      | inl lt ↦ (let e : row rows k ≡ row (rows ++ v ∷ []) k = ap items_of (sym (get_push_before rows v k (omega arith))) in
          let P : List ℕ → Type 0 = λ z. ListsRising z (Q k) in subst P e (before k lt))
      | inr e ↦ (let at : v.items ≡ row (rows ++ v ∷ []) n = ap items_of (sym (get_push_same rows v) ∙ ap (λ z. slice_get (rows ++ v ∷ []) z) count) in
          let P : List ℕ → Type 0 = λ z. ListsRising z (Q n) in
          let R : ℕ → Type 0 = λ z. ListsRising (row (rows ++ v ∷ []) z) (Q z) in subst R e (subst P at new))
    ]
  where
    cases : (k : ℕ) → k < n + 1 → (k < n) ⊎ (n ≡ k)
    cases k h = grind arith

pub rows_all : (rows : List (Vec ℕ Global)) (n k : ℕ) (Q : ℕ → ℕ → Type 0) → length rows ≡ k → n ≤ k → ((p t : ℕ) → Q p t → p < n) →
    ((p : ℕ) → p < k → ListsRising (row rows p) (Q p)) → (p : ℕ) → ListsRising (row rows p) (Q p)
rows_all rows n k Q count over within each p =
    elim (cases p) as (λ _. ListsRising (row rows p) (Q p)) [
      | inl lt ↦ each p lt
      | inr ge ↦ (let past : [] ≡ row rows p = ap items_of (sym (slice_get_past rows p (omega arith))) in
          let P : List ℕ → Type 0 = λ z. ListsRising z (Q p) in
          subst P past (lists_nothing (Q p) (λ t h. let lt = within p t h in omega arith)))
    ]
  where
    cases : (p : ℕ) → (p < k) ⊎ (k ≤ p)
    cases p = grind arith

in_row_within : (o : Option (Vec Bool Global)) (n q : ℕ) → ((v : Vec Bool Global) → o ≡ Some v → vec_len v ≡ n) → in_row o q ≡ true → q < n
in_row_within None n q len h = cc
in_row_within (Some v) n q len h =
    elim (cases (length v.items)) as (λ _. q < n) [
      | inl lt ↦ (let l = len v refl in let ok = v.ok in omega arith)
      | inr ge ↦ (let e = past v.items q ge in cc)
    ]
  where
    cases : (k : ℕ) → (q < k) ⊎ (k ≤ q)
    cases k = grind arith

    past : (xs : List Bool) (q : ℕ) → length xs ≤ q → get_or xs q false ≡ false
    past [] q h = refl
    past (x ∷ xs) zero h = absurd (omega arith)
    past (x ∷ xs) (suc q) h = past xs q (omega arith)

pub column_within : (marks : List (Vec Bool Global)) (n p q : ℕ) → IsSquare marks n → IsTrue (marked marks p q) → q < n
column_within marks n p q square h = in_row_within (slice_get marks p) n q (λ v e. square.each p v e) h

in_row_there : (o : Option (Vec Bool Global)) (q : ℕ) → o ≡ None → in_row o q ≡ true → ⊥
in_row_there o q e h = let f = ap (λ z. in_row z q) e in cc

pub row_within : (marks : List (Vec Bool Global)) (p q : ℕ) → IsTrue (marked marks p q) → p < length marks
row_within marks p q h =
    elim (slice_get_cases marks p).1 as (λ _. p < length marks) [ inl w ↦ w.1 | inr w ↦ absurd (in_row_there (slice_get marks p) q w.1 h) ]

pub row_pushed : (rows new : List (Vec ℕ Global)) (v : Vec ℕ Global) (n : ℕ) (Q : ℕ → ℕ → Type 0) → new ≡ rows ++ v ∷ [] → length rows ≡ n →
    ((k : ℕ) → k < n → ListsRising (row rows k) (Q k)) → ListsRising v.items (Q n) →
    (k : ℕ) → k < n + 1 → ListsRising (row new k) (Q k)
row_pushed rows new v n Q e count before made k h =
    let P : List (Vec ℕ Global) → Type 0 = λ z. ListsRising (row z k) (Q k) in subst P (sym e) (row_push rows v n Q count before made k h)
