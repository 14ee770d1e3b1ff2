-- Elements of lists by their places.
use Rattle.std.specs.Prelude.{◌≡◌, ℕ, zero, suc, ◌+◌, ◌<◌, ◌≤◌, ◌⊎◌, List, [], ◌∷◌, ◌++◌, Option, Some, None, take, length, slice_get, get_or, refl}
use Rattle.std.specs.Prelude.{Result, IfOk, OnOk}
use Rattle.std.specs.Result.{IsErrAnd}
use Rattle.std.specs.declared.result.Result.TheVariants.{Ok, Err}
use Rattle.std.specs.List.{Contains}
use Rattle.std.proofs.Common.{option_map, IsTrue, false, ◌↔◌, sym, ap, ◌∙◌, subst, inl, inr, arith}
use Rattle.std.proofs.lemmas.Option.{slice_get_within, slice_get-get_or, get_or_from_slice_get, slice_get-map, slice_get_read}
use Rattle.std.proofs.lemmas.List.{take-append-le}
use Rattle.std.proofs.Math.Seq.{take-append_seam}
use Rattle.wi_pds.specs.Closed.{Summary, Listed}
use Rattle.wi_saturate.specs.declared.row.Row.{Row}
use Rattle.wi_saturate.specs.Rows.{summary, summaries, IsFor, RowAt, EachAfter}

pub same_some : {X : Type 0} {x y : X} → Some x ≡ Some y → x ≡ y
same_some h = cc

earlier_or_here : (i n : ℕ) → i < n + 1 → (i < n) ⊎ (i ≡ n)
earlier_or_here i n h = grind arith

pub contains_from_get : {X : Type 0} (xs : List X) (i : ℕ) (x : X) → slice_get xs i ≡ Some x → Contains xs x
contains_from_get xs i x h = (i, slice_get_within xs i x h, get_or_from_slice_get xs i x x h)

pub get_from_contains : {X : Type 0} (xs : List X) (x : X) → Contains xs x → (i : ℕ) × (slice_get xs i ≡ Some x)
get_from_contains xs x h = (h.0, slice_get-get_or xs h.0 x h.1 ∙ ap (λ y. Some y) h.2)

some_mapped : {X Y : Type 0} (f : X → Y) (o : Option X) (y : Y) → option_map f o ≡ Some y → (x : X) × (o ≡ Some x) × (f x ≡ y)
some_mapped f None y h = cc
some_mapped f (Some x) y h = (x, refl, same_some h)

module _ {W : Type 0} (c : W → List ℕ) where
  pub listed_from_get : (rows : List (Row W)) (i p g q : ℕ) (w : List ℕ) → RowAt c rows i p g q w → Listed (summaries c rows) p g q w
  listed_from_get rows i p g q w h =
      let here : summary c h.0 ≡ record { p = p; g = g; q = q; weight = w } = same_summary h.0 p g q w h.2 h.3 in
      contains_from_get _ i _ (slice_get-map (summary c) rows i ∙ (ap (option_map (summary c)) h.1 ∙ ap (λ y. Some y) here))
    where
      same_summary : (r : Row W) (p g q : ℕ) (w : List ℕ) → IsFor p g q r → c r.weight ≡ w → summary c r ≡ record { p = p; g = g; q = q; weight = w }
      same_summary r p g q w k e =
          let make : ℕ → ℕ → ℕ → List ℕ → Summary = λ a b d x. record { p = a; g = b; q = d; weight = x } in
          ap (λ x. make x r.g r.q (c r.weight)) k.0 ∙ ap (λ x. make p x r.q (c r.weight)) k.1 ∙ ap (λ x. make p g x (c r.weight)) k.2 ∙ ap (λ x. make p g q x) e

  pub get_from_listed : (rows : List (Row W)) (p g q : ℕ) (w : List ℕ) → Listed (summaries c rows) p g q w → (i : ℕ) × RowAt c rows i p g q w
  get_from_listed rows p g q w h =
      let at = get_from_contains _ _ h in
      let made = some_mapped (summary c) (slice_get rows at.0) _ (sym (slice_get-map (summary c) rows at.0) ∙ at.1) in
      (at.0, (made.0, made.1, (ap (λ s. s.p) made.2, ap (λ s. s.g) made.2, ap (λ s. s.q) made.2), ap (λ s. s.weight) made.2))

pub false_when : {P : Type 0} → (P → ⊥) → IsTrue false ↔ P
false_when h = (λ e. cc, λ p. absurd (h p))

-- an element of a list with one more: it is of the list, or the last
pub get_push : {X : Type 0} (xs : List X) (y : X) (i : ℕ) (x : X) → slice_get (xs ++ y ∷ []) i ≡ Some x → ((i < length xs) × (slice_get xs i ≡ Some x)) ⊎ ((i ≡ length xs) × (y ≡ x))
get_push [] y zero x h = inr (refl, same_some h)
get_push [] y (suc i) x h = cc
get_push (z ∷ xs) y zero x h = inl (omega arith, h)
get_push (z ∷ xs) y (suc i) x h = elim (get_push xs y i x h) [
  | inl k ↦ let less : i < length xs = k.0 in inl (omega arith, k.1)
  | inr k ↦ let same : i ≡ length xs = k.0 in inr (omega arith, k.1)
]

pub get_front : {X : Type 0} (xs ys : List X) (i : ℕ) (x : X) → slice_get xs i ≡ Some x → slice_get (xs ++ ys) i ≡ Some x
get_front [] ys i x h = cc
get_front (z ∷ xs) ys zero x h = h
get_front (z ∷ xs) ys (suc i) x h = get_front xs ys i x h

pub get_before : {X : Type 0} (xs : List X) (y : X) (i : ℕ) (x : X) → slice_get xs i ≡ Some x → slice_get (xs ++ y ∷ []) i ≡ Some x
get_before xs y i x h = get_front xs (y ∷ []) i x h

pub before_or_not : (i n : ℕ) → (i < n) ⊎ (n ≤ i)
before_or_not i zero = inr (omega arith)
before_or_not zero (suc n) = inl (omega arith)
before_or_not (suc i) (suc n) = elim (before_or_not i n) [
  | inl low ↦ inl (omega (arith, low))
  | inr high ↦ inr (omega (arith, high))
]

pub get_last : {X : Type 0} (xs : List X) (y : X) → slice_get (xs ++ y ∷ []) (length xs) ≡ Some y
get_last [] y = refl
get_last (z ∷ xs) y = get_last xs y

pub get_taken : {X : Type 0} (n : ℕ) (xs : List X) (i : ℕ) (x : X) → slice_get (take n xs) i ≡ Some x → slice_get xs i ≡ Some x
get_taken zero xs i x h = cc
get_taken (suc n) [] i x h = h
get_taken (suc n) (z ∷ xs) zero x h = h
get_taken (suc n) (z ∷ xs) (suc i) x h = get_taken n xs i x h

pub each_after_push : {X : Type 0} (P : List X → X → Type 0) (xs : List X) (y : X) → EachAfter P xs → P xs y → EachAfter P (xs ++ y ∷ [])
each_after_push P xs y each here i x h = elim (get_push xs y i x h) [
  | inl k ↦ let less : i ≤ length xs = omega (arith, k.0) in subst (λ zs. P zs x) (sym (take-append-le i xs (y ∷ []) less)) (each i x k.1)
  | inr k ↦ subst (λ j. P (take j (xs ++ y ∷ [])) x) (sym k.0) (subst (λ zs. P zs x) (sym (take-append_seam xs (y ∷ []))) (subst (λ z. P xs z) k.1 here))
]

-- what follows where a call answers Ok
pub on_ok : {T E : Type 0} {P Q : Type 0} (r : Result T E) → (P → Q) → OnOk r P → OnOk r Q
on_ok (Ok x) f h = f h
on_ok (Err e) f h = tt

-- an element that was read is the one that stands there
pub read_there : {X : Type 0} (xs : List X) (i : ℕ) (x y : X) → slice_get xs i ≡ Some y → x ≡ get_or xs i x → slice_get xs i ≡ Some x
read_there xs i x y at is = slice_get_read xs (length xs) i x refl (slice_get_within xs i y at) is

pub got_there : {X : Type 0} (xs : List X) (i : ℕ) (d y : X) → slice_get xs i ≡ Some y → slice_get xs i ≡ Some (get_or xs i d)
got_there xs i d y at = slice_get-get_or xs i d (slice_get_within xs i y at)

-- there is an element at each place of a list
pub some_there : {X : Type 0} (xs : List X) (i : ℕ) → i < length xs → (x : X) × (slice_get xs i ≡ Some x)
some_there [] i within = absurd (omega arith)
some_there (x ∷ xs) zero within = (x, refl)
some_there (x ∷ xs) (suc i) within = some_there xs i (omega arith)

pub same_item : {X : Type 0} (xs : List X) (i : ℕ) (x y : X) → slice_get xs i ≡ Some x → slice_get xs i ≡ Some y → x ≡ y
same_item xs i x y at at' = same_some (sym at ∙ at')

pub on_ok_both : {T E : Type 0} {P Q R : Type 0} (r : Result T E) → (P → Q → R) → OnOk r P → OnOk r Q → OnOk r R
on_ok_both (Ok x) f h k = f h k
on_ok_both (Err e) f h k = tt

pub on_any : {T E : Type 0} {P : Type 0} (r : Result T E) → P → OnOk r P
on_any (Ok x) h = h
on_any (Err e) h = tt

-- an error says nothing of an Ok
pub if_err : {T E : Type 0} (Q : T → Type 0) (r : Result T E) (P : E → Type 0) → IsErrAnd r P → IfOk r Q
if_err Q (Ok x) P h = absurd h
if_err Q (Err e) P h = tt

pub on_err : {T E : Type 0} (Q : Type 0) (r : Result T E) (P : E → Type 0) → IsErrAnd r P → OnOk r Q
on_err Q (Ok x) P h = absurd h
on_err Q (Err e) P h = tt
