-- Where lines end.
use Rattle.std.specs.Prelude.{◌≡◌, ℕ, suc, ◌+◌, ◌-◌, ◌<◌, ◌≤◌, Bool, true, false, not, ◌==◌, List, [], ◌∷◌, ◌++◌, Some, None, length, refl, Contains}
use Rattle.std.specs.List.{All, position, position_or_len, list_all}
use Rattle.std.proofs.Common.{sym, ap, ◌∙◌, subst, take, drop, get_or, arith, add-one, drop-cons, length-take}
use Rattle.std.proofs.lemmas.Bool.Decides.{nat_tests}
use Rattle.std.proofs.lemmas.Grind.{common_steps}
use Rattle.std.proofs.lemmas.List.{take-append-drop, take_rest}
use Rattle.std.proofs.lemmas.List.Elements.{All-nil, All-cons, All-contains, Contains-get_or, Contains-append_right}
use Rattle.std.proofs.lemmas.List.Folds.{list_all-append}
use Rattle.std.proofs.lemmas.List.Quantifiers.{position-Some}
use Rattle.std.proofs.lemmas.List.Sums.{fails_before_first}
use Rattle.wi_cert.specs.private.Ends.{is_free}
use Rattle.wi_cert.proofs.Cases.{by_test, both}

free_by : (ys : List ℕ) → ((k : ℕ) → k < length ys → (get_or ys k 0 == 10) ≡ false) → is_free ys ≡ true
free_by [] h = refl
free_by (y ∷ ys) h = rw (h 0 (omega arith)) (free_by ys (λ k lt. h (suc k) (omega arith)))

-- the line before the first end, and what follows
pub cut_at : (xs : List ℕ) (i : ℕ) → position (λ b. b == 10) xs ≡ Some i → (xs ≡ take i xs ++ 10 ∷ take (length xs - (i + 1)) (drop (i + 1) xs)) × (is_free (take i xs) ≡ true)
cut_at xs i h =
    let p = position-Some (λ b. b == 10) xs i 0 h in
    let within : i < length xs = p.0 in
    let ten : get_or xs i 0 ≡ 10 = grind (arith, nat_tests, p.1) in
    let whole : drop i xs ≡ 10 ∷ drop (i + 1) xs = rw (add-one, drop-cons xs i 0) (ap (λ b. b ∷ drop (suc i) xs) ten) in (
      sym (take-append-drop i xs) ∙ ap (λ ys. take i xs ++ ys) (whole ∙ ap (λ ys. 10 ∷ ys) (sym (take_rest xs (i + 1)))),
      free_by (take i xs) (λ k lt.
          let below : k < i = omega (arith, length-take i xs) in
          let same : get_or (take i xs) k 0 ≡ get_or xs k 0 = grind (arith, common_steps) in
          ap (λ b. b == 10) same ∙ p.2 k below),
    )

absent : (p : ℕ → Bool) (xs : List ℕ) → position p xs ≡ None → length xs ≤ position_or_len p xs
absent p xs h = grind (arith, nat_tests, common_steps, h)

-- no end
pub free_where_none : (xs : List ℕ) → position (λ b. b == 10) xs ≡ None → is_free xs ≡ true
free_where_none xs h = free_by xs (λ k lt. fails_before_first (λ b. b == 10) xs k 0 (omega (arith, absent (λ b. b == 10) xs h)))

abbrev IsNoEnd : ℕ → Type 0
IsNoEnd b = (b == 10) ≡ false

none_at : (line : List ℕ) → is_free line ≡ true → All IsNoEnd line
none_at [] h = All-nil IsNoEnd
none_at (b ∷ bs) h = let r = both (not (b == 10)) (is_free bs) h in All-cons IsNoEnd b bs (other (b == 10) r.0) (none_at bs r.1)
  where
    other : (t : Bool) → not t ≡ true → t ≡ false
    other true h = cc
    other false h = refl

-- a free line contains no end, and a line that contains none is free
pub no_end_in : (line : List ℕ) → is_free line ≡ true → Contains line 10 → ⊥
no_end_in line h k = clash (All-contains IsNoEnd line 10 (none_at line h) k)
  where
    clash : true ≡ false → ⊥
    clash h = cc

pub free_without : (line : List ℕ) → (Contains line 10 → ⊥) → is_free line ≡ true
free_without line h = free_by line (λ k lt. by_test (get_or line k 0 == 10)
    (λ (e : (get_or line k 0 == 10) ≡ true).
    let ten : get_or line k 0 ≡ 10 = grind (arith, nat_tests, e) in
    absurd (h (subst (Contains line) ten (Contains-get_or line k 0 lt))))
    (λ (e : (get_or line k 0 == 10) ≡ false). e))

abbrev pub all_free : List (List ℕ) → Bool
all_free lines = list_all is_free lines

abbrev AreWhole : List (List ℕ) → Type 0
AreWhole lines = (line : List ℕ) → Contains lines line → Contains line 10 → ⊥

pub whole_where_free : (lines : List (List ℕ)) → all_free lines ≡ true → AreWhole lines
whole_where_free lines h line k = no_end_in line (All-contains IsFree lines line (each lines h) k)
  where
    IsFree : List ℕ → Type 0
    IsFree line = is_free line ≡ true

    each : (lines : List (List ℕ)) → all_free lines ≡ true → All IsFree lines
    each [] h = All-nil IsFree
    each (line ∷ lines) h = let r = both (is_free line) (all_free lines) h in All-cons IsFree line lines r.0 (each lines r.1)

pub free_where_whole : (lines : List (List ℕ)) → AreWhole lines → all_free lines ≡ true
free_where_whole [] h = refl
free_where_whole (line ∷ lines) h =
    rw (free_without line (h line (0, omega arith, refl))) (free_where_whole lines (λ l k. h l (Contains-append_right (line ∷ []) lines l k)))

pub all_free-append : (xs ys : List (List ℕ)) → all_free xs ≡ true → all_free ys ≡ true → all_free (xs ++ ys) ≡ true
all_free-append xs ys h k = list_all-append is_free xs ys ∙ rw (h, k) refl

pub is_free-append : (xs ys : List ℕ) → is_free xs ≡ true → is_free ys ≡ true → is_free (xs ++ ys) ≡ true
is_free-append xs ys h k = list_all-append (λ b. not (b == 10)) xs ys ∙ rw (h, k) refl

-- a text has one first line
pub first_line_same : (a b x y : List ℕ) → is_free a ≡ true → is_free b ≡ true → a ++ 10 ∷ x ≡ b ++ 10 ∷ y → a ≡ b
first_line_same [] [] x y f g h = refl
first_line_same [] (c ∷ b) x y f g h = let e : 10 ≡ c = cc in clash (subst (λ z. is_free (z ∷ b) ≡ true) (sym e) g)
  where
    clash : {G : Type 0} → false ≡ true → G
    clash h = cc
first_line_same (c ∷ a) [] x y f g h = let e : c ≡ 10 = cc in clash (subst (λ z. is_free (z ∷ a) ≡ true) e f)
  where
    clash : {G : Type 0} → false ≡ true → G
    clash h = cc
first_line_same (c ∷ a) (d ∷ b) x y f g h =
    let e : c ≡ d = cc in
    let t : a ++ 10 ∷ x ≡ b ++ 10 ∷ y = cc in
    let r = both (not (c == 10)) (is_free a) f in
    let s = both (not (d == 10)) (is_free b) g in
    let same : a ≡ b = first_line_same a b x y r.1 s.1 t in
    cc
