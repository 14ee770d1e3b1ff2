-- Steps through lists.
use Rattle.std.proofs.Common.{◌≡◌, ℕ, zero, suc, ◌+◌, ◌<◌, ◌≤◌, Bool, true, false, List, [], ◌∷◌, ◌++◌, length, get_or, take, drop, map, slice_get, Option, Some, None, refl, sym, ap, ◌∙◌, arith}
use Rattle.std.specs.List.{find, flat_map, list_any}

-- what is left at an element begins with it
pub left_at : {X : Type 0} (xs : List X) (i : ℕ) (x : X) → slice_get xs i ≡ Some x → drop i xs ≡ x ∷ drop (i + 1) xs
left_at [] i x e = cc
left_at (y ∷ xs) zero x e = cc
left_at (y ∷ xs) (suc i) x e =
    let k : suc i + 1 ≡ suc (i + 1) = omega arith in
    left_at xs i x e ∙ ap (λ n. x ∷ drop n (y ∷ xs)) (sym k)

-- the first that passes
pub found_at : {X : Type 0} (p : X → Bool) (xs : List X) (i : ℕ) (x : X) (o : Option X) → find p (drop i xs) ≡ o → slice_get xs i ≡ Some x → p x ≡ true → Some x ≡ o
found_at p xs i x o is e px = sym (ap (λ s. find p s) (left_at xs i x e) ∙ rw px refl) ∙ is

pub passed_at : {X : Type 0} (p : X → Bool) (xs : List X) (i : ℕ) (x : X) (o : Option X) → find p (drop i xs) ≡ o → slice_get xs i ≡ Some x → p x ≡ false → find p (drop (i + 1) xs) ≡ o
passed_at p xs i x o is e px = sym (ap (λ s. find p s) (left_at xs i x e) ∙ rw px refl) ∙ is

nothing_of_nothing : {X : Type 0} (n : ℕ) → ◌≡◌ {A = List X} (drop n []) []
nothing_of_nothing zero = refl
nothing_of_nothing (suc n) = refl

nothing_left : {X : Type 0} (xs : List X) (i : ℕ) → slice_get xs i ≡ None → drop i xs ≡ drop (i + 1) xs
nothing_left [] i e = nothing_of_nothing i ∙ sym (nothing_of_nothing (i + 1))
nothing_left (y ∷ xs) zero e = cc
nothing_left (y ∷ xs) (suc i) e =
    let k : suc i + 1 ≡ suc (i + 1) = omega arith in
    nothing_left xs i e ∙ ap (λ n. drop n (y ∷ xs)) (sym k)

pub passed_past : {X : Type 0} (p : X → Bool) (xs : List X) (i : ℕ) (o : Option X) → find p (drop i xs) ≡ o → slice_get xs i ≡ None → find p (drop (i + 1) xs) ≡ o
passed_past p xs i o is e = ap (λ s. find p s) (sym (nothing_left xs i e)) ∙ is

pub none_passes_at : {X : Type 0} (p : X → Bool) (xs : List X) (i : ℕ) (x : X) (b : Bool) → list_any p (drop i xs) ≡ b → slice_get xs i ≡ Some x → p x ≡ false → list_any p (drop (i + 1) xs) ≡ b
none_passes_at p xs i x b is e px = sym (ap (λ s. list_any p s) (left_at xs i x e) ∙ rw px refl) ∙ is

-- what an element gives comes first of what is left
pub flat_at : {X Y : Type 0} (u : X → List Y) (xs : List X) (i : ℕ) (x : X) (ys : List Y) → flat_map u (drop i xs) ≡ ys → slice_get xs i ≡ Some x → ys ≡ u x ++ flat_map u (drop (i + 1) xs)
flat_at u xs i x ys is e = sym is ∙ ap (λ s. flat_map u s) (left_at xs i x e)

pub flat_passed : {X Y : Type 0} (u : X → List Y) (xs : List X) (i : ℕ) (x : X) (ys : List Y) → flat_map u (drop i xs) ≡ ys → slice_get xs i ≡ Some x → u x ≡ [] → flat_map u (drop (i + 1) xs) ≡ ys
flat_passed u xs i x ys is e none = sym (flat_at u xs i x ys is e ∙ rw none refl)

-- each of a list is looked up, and so nothing is unknown
pub nothing_unknown : {X M Y : Type 0} (f : X → Option M) (u : X → List Y) → ((x : X) (m : M) → f x ≡ Some m → u x ≡ []) → (xs : List X) (ms : List M) → map f xs ≡ map Some ms → flat_map u xs ≡ []
nothing_unknown f u known [] ms e = refl
nothing_unknown f u known (x ∷ xs) [] e = cc
nothing_unknown f u known (x ∷ xs) (m ∷ ms) e =
    let head : f x ≡ Some m = cc in
    let rest : map f xs ≡ map Some ms = cc in
    rw (known x m head) (nothing_unknown f u known xs ms rest)

pub first_flat : {X M Y : Type 0} (f : X → Option M) (u : X → List Y) → ((x : X) (m : M) → f x ≡ Some m → u x ≡ []) → (xs : List X) (i : ℕ) (x : X) (ms : List M) → map f (take i xs) ≡ map Some ms → slice_get xs i ≡ Some x → flat_map u xs ≡ u x ++ flat_map u (drop (i + 1) xs)
first_flat {X} {M} {Y} f u known xs i x ms e at = go xs i (nothing_unknown f u known (take i xs) ms e) at
  where
    go : (xs : List X) (i : ℕ) → flat_map u (take i xs) ≡ [] → slice_get xs i ≡ Some x → flat_map u xs ≡ u x ++ flat_map u (drop (i + 1) xs)
    go [] i none at = cc
    go (y ∷ xs) zero none at = let same : y ≡ x = cc in rw same refl
    go (y ∷ xs) (suc i) none at =
        let parts = both_none (u y) (flat_map u (take i xs)) none in
        let k : suc i + 1 ≡ suc (i + 1) = omega arith in
        rw (parts.0) (go xs i parts.1 at ∙ ap (λ n. u x ++ flat_map u (drop n (y ∷ xs))) (sym k))
      where
        both_none : (a b : List Y) → a ++ b ≡ [] → (a ≡ []) × (b ≡ [])
        both_none [] b e = (refl, e)
        both_none (z ∷ a) b e = cc

pub at_read : {X : Type 0} (xs : List X) (i : ℕ) (d : X) → i < length xs → slice_get xs i ≡ Some (get_or xs i d)
at_read [] i d low = absurd (omega (arith, low))
at_read (x ∷ xs) zero d low = refl
at_read (x ∷ xs) (suc i) d low = at_read xs i d (omega (arith, low))

pub nothing_after : {X : Type 0} (xs : List X) (i : ℕ) → length xs ≤ i → drop i xs ≡ []
nothing_after [] i h = nothing_of_nothing i
nothing_after (x ∷ xs) zero h = absurd (omega (arith, h))
nothing_after (x ∷ xs) (suc i) h = nothing_after xs i (omega (arith, h))
