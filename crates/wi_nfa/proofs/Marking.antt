-- Marks, and those that a loop adds.
use Rattle.std.proofs.Common.{◌≡◌, ◌≢◌, ℕ, zero, suc, ◌+◌, ◌<◌, ◌≤◌, Bool, true, false, ◌⊎◌, ◌↔◌, IsTrue, List, [], ◌∷◌, ◌++◌, length, Option, Some, None, replicate, take, get_or, set, Vec, vec_len, Contains, refl, sym, ap, ◌∙◌, inl, inr, subst, arith, add-one, length-set, get_or-set_same, get_or-set_other}
use Rattle.std.specs.Prelude.{slice_get}
use Rattle.std.specs.declared.alloc.Global.{Global}
use Rattle.std.proofs.Math.Seq.{take-suc}
use Rattle.std.proofs.lemmas.List.{take_all}
use Rattle.std.proofs.lemmas.Option.{slice_get-get_or}
use Rattle.std.proofs.lemmas.List.Elements.{Contains-push, Contains-push_cases, Contains-append_left}
use Rattle.wi_nfa.specs.private.Marks.{in_row, marked, IsSquare, AddsSome, AddsMarks}

pub nothing_in : {X : Type 0} {Y : Type 0} (x : X) → Contains [] x → Y
nothing_in x h = absurd (let lt = h.1 in omega arith)

-- one more of the list
pub take_more : (xs : List ℕ) (i : ℕ) → i < length xs → take (i + 1) xs ≡ take i xs ++ (get_or xs i 0 ∷ [])
take_more xs i h = rw add-one (take-suc xs i 0 h)

pub taken_more : (xs : List ℕ) (i q : ℕ) → i < length xs → Contains (take (i + 1) xs) q → Contains (take i xs) q ⊎ (get_or xs i 0 ≡ q)
taken_more xs i q h m = Contains-push_cases (take i xs) (get_or xs i 0) q (let P : List ℕ → Type 0 = λ z. Contains z q in subst P (take_more xs i h) m)

pub taken_old : (xs : List ℕ) (i q : ℕ) → i < length xs → Contains (take i xs) q → Contains (take (i + 1) xs) q
taken_old xs i q h m =
    let P : List ℕ → Type 0 = λ z. Contains z q in
    subst P (sym (take_more xs i h)) (Contains-append_left (take i xs) (get_or xs i 0 ∷ []) q m)

pub taken_new : (xs : List ℕ) (i q : ℕ) → i < length xs → get_or xs i 0 ≡ q → Contains (take (i + 1) xs) q
taken_new xs i q h e =
    let P : List ℕ → Type 0 = λ z. Contains z q in
    let Q : ℕ → Type 0 = λ z. Contains (take i xs ++ (get_or xs i 0 ∷ [])) z in
    subst P (sym (take_more xs i h)) (subst Q e (Contains-push (take i xs) (get_or xs i 0)))

or_same : (a b : ℕ) → (a ≡ b) ⊎ (a ≢ b)
or_same a b = grind arith

pub taken : (xs : List ℕ) (i : ℕ) → i < length xs → (t : ℕ) → Contains (take (i + 1) xs) t ↔ (Contains (take i xs) t ⊎ (get_or xs i 0 ≡ t))
taken xs i h t = (taken_more xs i t h, λ m. elim m as (λ _. Contains (take (i + 1) xs) t) [ inl g ↦ taken_old xs i t h g | inr e ↦ taken_new xs i t h e ])

-- one more mark
pub some_more : (old now new : List Bool) (at : ℕ) (P Q : ℕ → Type 0) → at < length now → new ≡ set now at true → ((t : ℕ) → Q t ↔ (P t ⊎ (at ≡ t))) →
    AddsSome old now P → AddsSome old new Q
some_more old now new at P Q lt e same is = subst (λ z. AddsSome old z Q) (sym e) (record { each = λ q. (forth q (or_same at q), back q (or_same at q)) })
  where
    forth : (q : ℕ) → (at ≡ q) ⊎ (at ≢ q) → IsTrue (get_or (set now at true) q false) → IsTrue (get_or old q false) ⊎ Q q
    forth q (inl here) h = inr ((same q).1 (inr here))
    forth q (inr ne) h =
        elim ((is.each q).0 (sym (get_or-set_other now at q true false (λ f. ne (sym f))) ∙ h)) as (λ _. IsTrue (get_or old q false) ⊎ Q q) [
          | inl g ↦ inl g
          | inr g ↦ inr ((same q).1 (inl g))
        ]

    back : (q : ℕ) → (at ≡ q) ⊎ (at ≢ q) → IsTrue (get_or old q false) ⊎ Q q → IsTrue (get_or (set now at true) q false)
    back q (inl here) h = subst (λ z. IsTrue (get_or (set now at true) z false)) here (get_or-set_same now at true false lt)
    back q (inr ne) h =
        get_or-set_other now at q true false (λ f. ne (sym f)) ∙ (is.each q).1 (elim h as (λ _. IsTrue (get_or old q false) ⊎ P q) [
          | inl g ↦ inl g
          | inr g ↦ elim ((same q).0 g) as (λ _. IsTrue (get_or old q false) ⊎ P q) [ inl k ↦ inr k | inr k ↦ absurd (ne k) ]
        ])

-- the same marks under another name
pub some_same : (old now new : List Bool) (P Q : ℕ → Type 0) → new ≡ now → ((t : ℕ) → Q t ↔ P t) → AddsSome old now P → AddsSome old new Q
some_same old now new P Q e same is = subst (λ z. AddsSome old z Q) (sym e) (record {
  each = λ q. (
    λ h. elim ((is.each q).0 h) as (λ _. IsTrue (get_or old q false) ⊎ Q q) [ inl g ↦ inl g | inr g ↦ inr ((same q).1 g) ],
    λ h. (is.each q).1 (elim h as (λ _. IsTrue (get_or old q false) ⊎ P q) [ inl g ↦ inl g | inr g ↦ inr ((same q).0 g) ]),
  );
})

-- the loop over the places is over
pub all_taken : (old row : List Bool) (places : List ℕ) (i : ℕ) → length places ≤ i → AddsSome old row (λ q. Contains (take i places) q) → AddsSome old row (λ q. Contains places q)
all_taken old row places i over is = subst (λ z. AddsSome old row (λ q. Contains z q)) (take_all i places over) is

pub get_set_same : {X : Type 0} (xs : List X) (i : ℕ) (x : X) → i < length xs → slice_get (set xs i x) i ≡ Some x
get_set_same [] i x h = absurd (omega arith)
get_set_same (y ∷ ys) zero x h = refl
get_set_same (y ∷ ys) (suc i) x h = get_set_same ys i x (omega arith)

pub get_set_other : {X : Type 0} (xs : List X) (i j : ℕ) (x : X) → j ≢ i → slice_get (set xs i x) j ≡ slice_get xs j
get_set_other [] i j x h = refl
get_set_other (y ∷ ys) zero zero x h = absurd (h refl)
get_set_other (y ∷ ys) zero (suc j) x h = refl
get_set_other (y ∷ ys) (suc i) zero x h = refl
get_set_other (y ∷ ys) (suc i) (suc j) x h = get_set_other ys i j x (λ e. h (ap suc e))

-- a table with no marks
pub get_replicate : (n q : ℕ) → get_or (replicate n false) q false ≡ false
get_replicate zero q = refl
get_replicate (suc n) zero = refl
get_replicate (suc n) (suc q) = get_replicate n q

none_in_row : (o : Option (Vec Bool Global)) (n q : ℕ) → ((v : Vec Bool Global) → o ≡ Some v → v.items ≡ replicate n false) → in_row o q ≡ true → ⊥
none_in_row None n q same h = cc
none_in_row (Some v) n q same h = let e = ap (λ z. get_or z q false) (same v refl) in let f = get_replicate n q in cc

pub none_marked : (rows : List (Vec Bool Global)) (n : ℕ) → ((p : ℕ) (v : Vec Bool Global) → slice_get rows p ≡ Some v → v.items ≡ replicate n false) →
    (p q : ℕ) → IsTrue (marked rows p q) → ⊥
none_marked rows n same p q h = none_in_row (slice_get rows p) n q (λ v e. same p v e) h

-- one more row of which the places are marked
module _ (old rows : List (Vec Bool Global)) (n : ℕ) (ends begins : List ℕ) (i : ℕ) (row new : Vec Bool Global)
    (in_ends : i < length ends) (in_rows : get_or ends i 0 < length rows) (is : row ≡ get_or rows (get_or ends i 0) row)
    (places : AddsSome row.items new.items (λ q. Contains begins q)) where
  at : ℕ
  at = get_or ends i 0

  had : slice_get rows (get_or ends i 0) ≡ Some row
  had = slice_get-get_or rows (get_or ends i 0) row in_rows ∙ ap Some (sym is)

  pub square_more : vec_len new ≡ vec_len row → IsSquare rows n → IsSquare (set rows (get_or ends i 0) new) n
  square_more len square = record { count = simp length-set square.count; each = λ p v e. each p v (or_same (get_or ends i 0) p) e }
    where
      each : (p : ℕ) (v : Vec Bool Global) → (get_or ends i 0 ≡ p) ⊎ (get_or ends i 0 ≢ p) → slice_get (set rows (get_or ends i 0) new) p ≡ Some v → vec_len v ≡ n
      each p v (inl e) h =
          let P : ℕ → Type 0 = λ z. slice_get (set rows (get_or ends i 0) new) z ≡ Some v in
          let here : Some v ≡ Some new = sym (subst P (sym e) h) ∙ get_set_same rows (get_or ends i 0) new in_rows in
          let same : v ≡ new = cc in
          ap vec_len same ∙ len ∙ square.each (get_or ends i 0) row had
      each p v (inr ne) h = square.each p v (sym (get_set_other rows (get_or ends i 0) p new (λ e. ne (sym e))) ∙ h)

  pub link_more : AddsMarks old rows (λ p q. Contains (take i ends) p × Contains begins q) →
      AddsMarks old (set rows (get_or ends i 0) new) (λ p q. Contains (take (i + 1) ends) p × Contains begins q)
  link_more before = record { marks = λ p q. (forth p q (or_same (get_or ends i 0) p), back p q (or_same (get_or ends i 0) p)) }
    where
      Here : ℕ → ℕ → Type 0
      Here p q = IsTrue (marked old p q) ⊎ (Contains (take (i + 1) ends) p × Contains begins q)

      row_had : (q : ℕ) → marked rows (get_or ends i 0) q ≡ get_or row.items q false
      row_had q = ap (λ z. in_row z q) had

      row_new : (q : ℕ) → marked (set rows (get_or ends i 0) new) (get_or ends i 0) q ≡ get_or new.items q false
      row_new q = ap (λ z. in_row z q) (get_set_same rows (get_or ends i 0) new in_rows)

      forth : (p q : ℕ) → (get_or ends i 0 ≡ p) ⊎ (get_or ends i 0 ≢ p) → IsTrue (marked (set rows (get_or ends i 0) new) p q) →
          IsTrue (marked old p q) ⊎ (Contains (take (i + 1) ends) p × Contains begins q)
      forth p q (inl e) h =
          let P : ℕ → Type 0 = λ z. IsTrue (marked (set rows (get_or ends i 0) new) z q) in
          let Q : ℕ → Type 0 = λ z. IsTrue (marked old z q) ⊎ (Contains (take (i + 1) ends) z × Contains begins q) in
          subst Q e (elim ((places.each q).0 (sym (row_new q) ∙ subst P (sym e) h)) as (λ _. Q (get_or ends i 0)) [
            | inl g ↦ elim ((before.marks (get_or ends i 0) q).0 (row_had q ∙ g)) as (λ _. Q (get_or ends i 0)) [
              | inl k ↦ inl k
              | inr k ↦ inr (taken_old ends i (get_or ends i 0) in_ends k.0, k.1)
            ]
            | inr g ↦ inr (taken_new ends i (get_or ends i 0) in_ends refl, g)
          ])
      forth p q (inr ne) h =
          let same = ap (λ z. in_row z q) (get_set_other rows (get_or ends i 0) p new (λ e. ne (sym e))) in
          elim ((before.marks p q).0 (sym same ∙ h)) as (λ _. IsTrue (marked old p q) ⊎ (Contains (take (i + 1) ends) p × Contains begins q)) [
            | inl k ↦ inl k
            | inr k ↦ inr (taken_old ends i p in_ends k.0, k.1)
          ]

      back : (p q : ℕ) → (get_or ends i 0 ≡ p) ⊎ (get_or ends i 0 ≢ p) → IsTrue (marked old p q) ⊎ (Contains (take (i + 1) ends) p × Contains begins q) →
          IsTrue (marked (set rows (get_or ends i 0) new) p q)
      back p q (inl e) h =
          let P : ℕ → Type 0 = λ z. IsTrue (marked (set rows (get_or ends i 0) new) z q) in
          let Q : ℕ → Type 0 = λ z. IsTrue (marked old z q) in
          subst P e (row_new q ∙ (places.each q).1 (elim h as (λ _. IsTrue (get_or row.items q false) ⊎ Contains begins q) [
            | inl g ↦ inl (sym (row_had q) ∙ (before.marks (get_or ends i 0) q).1 (inl (subst Q (sym e) g)))
            | inr g ↦ inr g.1
          ]))
      back p q (inr ne) h =
          let same = ap (λ z. in_row z q) (get_set_other rows (get_or ends i 0) p new (λ e. ne (sym e))) in
          same ∙ (before.marks p q).1 (elim h as (λ _. IsTrue (marked old p q) ⊎ (Contains (take i ends) p × Contains begins q)) [
            | inl g ↦ inl g
            | inr g ↦ elim (taken_more ends i p in_ends g.0) as (λ _. IsTrue (marked old p q) ⊎ (Contains (take i ends) p × Contains begins q)) [
              | inl k ↦ inr (k, g.1)
              | inr k ↦ absurd (ne k)
            ]
          ])

pub all_linked : (old rows : List (Vec Bool Global)) (ends begins : List ℕ) (i : ℕ) → length ends ≤ i →
    AddsMarks old rows (λ p q. Contains (take i ends) p × Contains begins q) → AddsMarks old rows (λ p q. Contains ends p × Contains begins q)
all_linked old rows ends begins i over is =
    let P : List ℕ → Type 0 = λ z. AddsMarks old rows (λ p q. Contains z p × Contains begins q) in subst P (take_all i ends over) is
