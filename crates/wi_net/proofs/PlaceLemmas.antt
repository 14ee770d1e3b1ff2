-- Where things stand in lists without repeats.
use Rattle.std.proofs.Common.{◌≡◌, ℕ, zero, suc, ◌+◌, ◌<◌, ◌≤◌, Bool, true, false, List, [], ◌∷◌, ◌++◌, take, drop, length, slice_get, position, Some, None, refl, sym, ap, ◌∙◌, arith}
use Rattle.std.specs.List.{list_any, position_from}
use Rattle.std.proofs.Math.Seq.{drop-cons}
use Rattle.std.proofs.lemmas.Bool.{or_parts, or_from}
use Rattle.std.proofs.lemmas.List.{take-append-drop, take_more, length-take-le}
use Rattle.std.proofs.lemmas.List.Folds.{list_any-append}
use Rattle.std.proofs.lemmas.Iterator.Adapters.{position_from-zero}
use Rattle.std.proofs.lemmas.Option.{slice_get_within, get_or_from_slice_get}
use Rattle.wi_net.proofs.FindingLemmas.{none_any}
use Rattle.wi_net.proofs.KeptLists.{none_from, none_parts}

-- what no place is found for stands nowhere
pub none_at : {X : Type 0} (p : X → Bool) (xs : List X) (i : ℕ) (x : X) → position p xs ≡ None → slice_get xs i ≡ Some x → p x ≡ false
none_at p [] i x none at = cc
none_at p (y ∷ xs) zero x none at = let same : y ≡ x = cc in ap p (sym same) ∙ (none_parts p y xs none).0
none_at p (y ∷ xs) (suc i) x none at = none_at p xs i x (none_parts p y xs none).1 at

-- nothing passes in a beginning of a list where nothing passes
pub none_front : {X : Type 0} (p : X → Bool) (xs ys : List X) → position p (xs ++ ys) ≡ None → position p xs ≡ None
none_front p xs ys e = none_from p xs ((or_parts (list_any p xs) (list_any p ys) (sym (list_any-append p xs ys) ∙ none_any p (xs ++ ys) e)).0)

none_cons : {X : Type 0} (p : X → Bool) (x : X) (xs : List X) → p x ≡ false → position p xs ≡ None → position p (x ∷ xs) ≡ None
none_cons p x xs here rest = none_from p (x ∷ xs) (or_from (p x) (list_any p xs) here (none_any p xs rest))

-- past a list where nothing passes
from_after : {X : Type 0} (p : X → Bool) (pre post : List X) (x : X) (i : ℕ) → list_any p pre ≡ false → p x ≡ true → position_from p i (pre ++ x ∷ post) ≡ Some (i + length pre)
from_after p [] post x i none here = rw here (ap Some (omega arith))
from_after p (y ∷ pre) post x i none here =
    let parts = or_parts (p y) (list_any p pre) none in
    let rest : i + 1 + length pre ≡ i + suc (length pre) = omega arith in
    rw parts.0 (from_after p pre post x (i + 1) parts.1 here ∙ ap Some rest)

pub position_after : {X : Type 0} (p : X → Bool) (pre post : List X) (x : X) → position p pre ≡ None → p x ≡ true → position p (pre ++ x ∷ post) ≡ Some (length pre)
position_after p pre post x none here =
    let count : 0 + length pre ≡ length pre = omega arith in
    position_from-zero p (pre ++ x ∷ post) ∙ from_after p pre post x 0 (none_any p pre none) here ∙ ap Some count

-- a list is what stands before a place, at it and after it
pub split_at : {X : Type 0} (xs : List X) (i : ℕ) (x : X) → slice_get xs i ≡ Some x → xs ≡ take i xs ++ x ∷ drop (suc i) xs
split_at xs i x at =
    let within = slice_get_within xs i x at in
    sym (take-append-drop i xs) ∙ ap (λ ys. take i xs ++ ys) (drop-cons xs i x within ∙ ap (λ y. y ∷ drop (suc i) xs) (get_or_from_slice_get xs i x x at))

-- what stands behind a beginning
pub get_middle : {X : Type 0} (xs ys : List X) (x : X) → slice_get (xs ++ x ∷ ys) (length xs) ≡ Some x
get_middle [] ys x = refl
get_middle (y ∷ xs) ys x = get_middle xs ys x

-- a list up to one more place
pub longer : {X : Type 0} (xs : List X) (i : ℕ) (x : X) → slice_get xs i ≡ Some x → take (i + 1) xs ≡ take i xs ++ x ∷ []
longer xs i x at = take_more xs i x (slice_get_within xs i x at) ∙ ap (λ y. take i xs ++ y ∷ []) (get_or_from_slice_get xs i x x at)

-- a list whose elements are apart by a test
pub record IsApart {X : Type 0} (t : X → X → Bool) (A : List X → Bool) : Type 0 where
  pub flip : (x y : X) → t x y ≡ false → t y x ≡ false
  pub self : (x : X) → t x x ≡ true
  pub head : (x : X) (xs : List X) → A (x ∷ xs) ≡ true → (position (t x) xs ≡ None) × (A xs ≡ true)

-- what stands after a list isn't in it
pub before : {X : Type 0} (t : X → X → Bool) (A : List X → Bool) → IsApart t A → (pre post : List X) (x : X) → A (pre ++ x ∷ post) ≡ true → position (t x) pre ≡ None
before t A a [] post x all = refl
before t A a (y ∷ pre) post x all =
    let parts = a.head y (pre ++ x ∷ post) all in
    let other : t y x ≡ false = none_at (t y) (pre ++ x ∷ post) (length pre) x parts.0 (get_middle pre post x) in
    none_cons (t x) y pre (a.flip y x other) (before t A a pre post x parts.1)

pub none_before : {X : Type 0} (t : X → X → Bool) (A : List X → Bool) → IsApart t A → (xs : List X) (k : ℕ) (x : X) → A xs ≡ true → slice_get xs k ≡ Some x → position (t x) (take k xs) ≡ None
none_before t A a xs k x all at = before t A a (take k xs) (drop (suc k) xs) x (ap A (sym (split_at xs k x at)) ∙ all)

-- an element is found at its place, also in a beginning that has it
pub found_at : {X : Type 0} (t : X → X → Bool) (A : List X → Bool) → IsApart t A → (xs : List X) (k : ℕ) (x : X) → A xs ≡ true → slice_get xs k ≡ Some x → position (t x) xs ≡ Some k
found_at t A a xs k x all at =
    let within = slice_get_within xs k x at in
    ap (position (t x)) (split_at xs k x at) ∙ position_after (t x) (take k xs) (drop (suc k) xs) x (none_before t A a xs k x all at) (a.self x) ∙ ap Some (length-take-le k xs (omega (arith, within)))

get_take : {X : Type 0} (xs : List X) (n k : ℕ) → k < n → slice_get (take n xs) k ≡ slice_get xs k
get_take xs zero k lt = absurd (omega (arith, lt))
get_take [] (suc n) k lt = refl
get_take (x ∷ xs) (suc n) zero lt = refl
get_take (x ∷ xs) (suc n) (suc k) lt = get_take xs n k (omega (arith, lt))

pub found_in_take : {X : Type 0} (t : X → X → Bool) (A : List X → Bool) → IsApart t A → (xs : List X) (n k : ℕ) (x : X) → A xs ≡ true → slice_get xs k ≡ Some x → k < n → position (t x) (take n xs) ≡ Some k
found_in_take {X} t A a xs n k x all at lt =
    let there : slice_get (take n xs) k ≡ Some x = get_take xs n k lt ∙ at in
    let within = slice_get_within (take n xs) k x there in
    let front : take k (take n xs) ≡ take k xs = take_less xs n k lt in
    let none : position (t x) (take k (take n xs)) ≡ None = ap (position (t x)) front ∙ none_before t A a xs k x all at in
    ap (position (t x)) (split_at (take n xs) k x there) ∙ position_after (t x) (take k (take n xs)) (drop (suc k) (take n xs)) x none (a.self x) ∙ ap Some (length-take-le k (take n xs) (omega (arith, within)))
  where
    take_less : (ys : List X) (m j : ℕ) → j < m → take j (take m ys) ≡ take j ys
    take_less ys m zero h = refl
    take_less ys zero (suc j) h = absurd (omega (arith, h))
    take_less [] (suc m) (suc j) h = refl
    take_less (y ∷ ys) (suc m) (suc j) h = ap (λ zs. y ∷ zs) (take_less ys m j (omega (arith, h)))

-- and isn't found in one that ends before it
pub none_in_take : {X : Type 0} (t : X → X → Bool) (A : List X → Bool) → IsApart t A → (xs : List X) (n k : ℕ) (x : X) → A xs ≡ true → slice_get xs k ≡ Some x → n ≤ k → position (t x) (take n xs) ≡ None
none_in_take {X} t A a xs n k x all at le = none_front (t x) (take n xs) (drop n (take k xs)) (ap (position (t x)) (front xs n k le) ∙ none_before t A a xs k x all at)
  where
    front : (ys : List X) (m j : ℕ) → m ≤ j → take m ys ++ drop m (take j ys) ≡ take j ys
    front ys zero j h = refl
    front ys (suc m) zero h = absurd (omega (arith, h))
    front [] (suc m) (suc j) h = refl
    front (y ∷ ys) (suc m) (suc j) h = ap (λ zs. y ∷ zs) (front ys m j (omega (arith, h)))
