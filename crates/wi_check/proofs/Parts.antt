-- The first of what parts ask, part by part.
use Rattle.std.specs.Prelude.{◌≡◌, ℕ, suc, ◌+◌, ◌<◌, Bool, true, false, List, ◌∷◌, ◌++◌, Option, Some, None, length, find, is_some, option_map}
use Rattle.std.specs.Option.{option_or}
use Rattle.std.proofs.Common.{refl, sym, ap, ◌∙◌, drop, get_or, add-one}
use Rattle.std.proofs.Math.Seq.{drop-cons}
use Rattle.std.proofs.lemmas.List.Folds.{find-append}

or_some : {B : Type 0} (o rest whole : Option B) → option_or o rest ≡ whole → is_some o ≡ true → o ≡ whole
or_some (Some b) rest whole h k = h
or_some None rest whole h k = cc

or_none : {B : Type 0} (o rest whole : Option B) → option_or o rest ≡ whole → is_some o ≡ false → rest ≡ whole
or_none (Some b) rest whole h k = cc
or_none None rest whole h k = h

cut : {A : Type 0} (xs : List A) (i : ℕ) (x d : A) → i < length xs → x ≡ get_or xs i d → x ∷ drop (i + 1) xs ≡ drop i xs
cut xs i x d within at = rw add-one (ap (λ y. y ∷ drop (suc i) xs) at ∙ sym (drop-cons xs i d within))

-- a list is asked for by the parts of another, part by part
module _ {A B : Type 0} (test : B → Bool) (all : List A → List B) (part : A → List B) (grows : (x : A) (xs : List A) → all (x ∷ xs) ≡ part x ++ all xs)
    (xs : List A) (i : ℕ) (x d : A) (o whole : Option B) (within : i < length xs) (at : x ≡ get_or xs i d) (found : o ≡ find test (part x)) (so_far : find test (all (drop i xs)) ≡ whole) where
  step : option_or o (find test (all (drop (i + 1) xs))) ≡ whole
  step = ap (λ y. option_or y (find test (all (drop (i + 1) xs)))) found
      ∙ sym (find-append test (part x) (all (drop (i + 1) xs)))
      ∙ ap (find test) (sym (grows x (drop (i + 1) xs)))
      ∙ ap (λ ys. find test (all ys)) (cut xs i x d within at)
      ∙ so_far

  -- where a part has one, it is the first of all
  pub part_found : is_some o ≡ true → o ≡ whole
  part_found = or_some o (find test (all (drop (i + 1) xs))) whole step

  -- where it has none, the first of all is the first of the parts after it
  pub part_none : is_some o ≡ false → find test (all (drop (i + 1) xs)) ≡ whole
  part_none = or_none o (find test (all (drop (i + 1) xs))) whole step

-- what was found in earlier parts stands before what this part has
pub part_behind : {A B : Type 0} (test : B → Bool) (all : List A → List B) (part : A → List B) (grows : (x : A) (xs : List A) → all (x ∷ xs) ≡ part x ++ all xs)
    (xs : List A) (i : ℕ) (x d : A) (before o whole : Option B) → i < length xs → x ≡ get_or xs i d → o ≡ option_or before (find test (part x))
    → option_or before (find test (all (drop i xs))) ≡ whole → option_or o (find test (all (drop (i + 1) xs))) ≡ whole
part_behind test all part grows xs i x d None o whole within at found so_far = step test all part grows xs i x d o whole within at found so_far
part_behind test all part grows xs i x d (Some b) o whole within at found so_far = ap (λ y. option_or y (find test (all (drop (i + 1) xs)))) found ∙ so_far

pub not_some : {A : Type 0} (o : Option A) → is_some o ≡ false → o ≡ None
not_some None h = refl
not_some (Some x) h = cc

pub is_some_mapped : {A B : Type 0} (f : A → B) (o : Option A) (b : Bool) → is_some o ≡ b → is_some (option_map f o) ≡ b
is_some_mapped f None b h = h
is_some_mapped f (Some x) b h = h
