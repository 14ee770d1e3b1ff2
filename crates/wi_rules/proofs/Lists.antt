-- What stands in a list, and where.
use Rattle.std.proofs.Common.{◌≡◌, ℕ, zero, suc, ◌+◌, ◌<◌, ◌≤◌, Bool, true, false, List, [], ◌∷◌, ◌++◌, length, map, drop, slice_get, nat_eq, Option, Some, None, ◌⊎◌, inl, inr, refl, arith, ap, sym, zero-add}
use Rattle.std.specs.Prelude.{if◌then◌else◌}
use Rattle.std.specs.List.{Contains, filter, flat_map, range_with_len, list_all}
use Rattle.std.specs.Option.{option_map_or}
use Rattle.std.proofs.lemmas.List.{length-replicate}
use Rattle.std.proofs.lemmas.Bool.{and_parts, or_cases, or_left, or_right, eq-eqb}
use Rattle.wi_net.specs.declared.parts.LinkId.{LinkId}
use Rattle.wi_net.specs.LinkSet.{has}
use Rattle.wi_net.proofs.SetLemmas.{same_link}
use Rattle.wi_rules.specs.Rules.{Encoding, zeros, each_at}

-- x is one of the elements
abbrev pub In : {X : Type 0} → List X → X → Type 0
In [] x = ⊥
In (y ∷ ys) x = (y ≡ x) ⊎ In ys x

pub contains_in : {X : Type 0} (xs : List X) (x : X) → Contains xs x → In xs x
contains_in [] x h = absurd (let k : h.0 < 0 = h.1 in omega (arith, k))
contains_in (y ∷ ys) x (zero, lt, e) = inl e
contains_in (y ∷ ys) x (suc k, lt, e) = inr (contains_in ys x (k, omega (arith, lt), e))

pub in_contains : {X : Type 0} (xs : List X) (x : X) → In xs x → Contains xs x
in_contains [] x h = absurd h
in_contains (y ∷ ys) x (inl e) = (zero, omega arith, e)
in_contains (y ∷ ys) x (inr h) = let c : Contains ys x = in_contains ys x h in (suc c.0, (let lt : c.0 < length ys = c.1 in omega (arith, lt)), c.2)

pub in_left : {X : Type 0} (xs ys : List X) (x : X) → In xs x → In (xs ++ ys) x
in_left [] ys x h = absurd h
in_left (z ∷ xs) ys x (inl e) = inl e
in_left (z ∷ xs) ys x (inr h) = inr (in_left xs ys x h)

pub in_right : {X : Type 0} (xs ys : List X) (x : X) → In ys x → In (xs ++ ys) x
in_right [] ys x h = h
in_right (z ∷ xs) ys x h = inr (in_right xs ys x h)

pub in_either : {X : Type 0} (xs ys : List X) (x : X) → In (xs ++ ys) x → In xs x ⊎ In ys x
in_either [] ys x h = inr h
in_either (z ∷ xs) ys x (inl e) = inl (inl e)
in_either (z ∷ xs) ys x (inr h) = elim (in_either xs ys x h) [ inl a ↦ inl (inr a) | inr b ↦ inr b ]

pub in_map : {X Y : Type 0} (f : X → Y) (xs : List X) (x : X) → In xs x → In (map f xs) (f x)
in_map f [] x h = absurd h
in_map f (z ∷ xs) x (inl e) = inl (ap f e)
in_map f (z ∷ xs) x (inr h) = inr (in_map f xs x h)

pub map_in : {X Y : Type 0} (f : X → Y) (xs : List X) (y : Y) → In (map f xs) y → (x : X) × In xs x × (f x ≡ y)
map_in f [] y h = absurd h
map_in f (z ∷ xs) y (inl e) = (z, inl refl, e)
map_in f (z ∷ xs) y (inr h) = let r = map_in f xs y h in (r.0, inr r.1, r.2)

pub in_flat : {X Y : Type 0} (f : X → List Y) (xs : List X) (x : X) (y : Y) → In xs x → In (f x) y → In (flat_map f xs) y
in_flat f [] x y h k = absurd h
in_flat f (z ∷ xs) x y (inl e) k = in_left (f z) (flat_map f xs) y (rw e k)
in_flat f (z ∷ xs) x y (inr h) k = in_right (f z) (flat_map f xs) y (in_flat f xs x y h k)

pub flat_in : {X Y : Type 0} (f : X → List Y) (xs : List X) (y : Y) → In (flat_map f xs) y → (x : X) × In xs x × In (f x) y
flat_in f [] y h = absurd h
flat_in f (z ∷ xs) y h = elim (in_either (f z) (flat_map f xs) y h) [
  | inl a ↦ (z, inl refl, a)
  | inr b ↦ (let r = flat_in f xs y b in (r.0, inr r.1, r.2))
]

pub in_each : {X Y : Type 0} (f : ℕ → X → List Y) (i : ℕ) (xs : List X) (j : ℕ) (x : X) (y : Y) → slice_get xs j ≡ Some x → In (f (i + j) x) y → In (each_at f i xs) y
in_each f i [] j x y e k = cc
in_each f i (z ∷ xs) zero x y e k =
    let same : z ≡ x = cc in
    let none : i + 0 ≡ i = omega arith in
    in_left (f i z) (each_at f (i + 1) xs) y (rw same (rw none at k))
in_each f i (z ∷ xs) (suc j) x y e k =
    let more : i + suc j ≡ (i + 1) + j = omega arith in
    in_right (f i z) (each_at f (i + 1) xs) y (in_each f (i + 1) xs j x y e (rw more at k))

pub each_in : {X Y : Type 0} (f : ℕ → X → List Y) (i : ℕ) (xs : List X) (y : Y) → In (each_at f i xs) y → (j : ℕ) × (x : X) × (slice_get xs j ≡ Some x) × In (f (i + j) x) y
each_in f i [] y h = absurd h
each_in f i (z ∷ xs) y h = elim (in_either (f i z) (each_at f (i + 1) xs) y h) [
  | inl a ↦ (zero, z, refl, (let none : i ≡ i + 0 = omega arith in rw none at a))
  | inr b ↦
      (let r = each_in f (i + 1) xs y b in
      (suc r.0, r.1, r.2, (let more : (i + 1) + r.0 ≡ i + suc r.0 = omega arith in rw more at r.3)))
]

pub in_filter : {X : Type 0} (p : X → Bool) (xs : List X) (x : X) → In xs x → p x ≡ true → In (filter p xs) x
in_filter p [] x h k = absurd h
in_filter p (z ∷ xs) x (inl e) k = let there : p z ≡ true = rw e k in rw there (inl e)
in_filter p (z ∷ xs) x (inr h) k = go (p z) refl (in_filter p xs x h k)
  where
    go : (b : Bool) → p z ≡ b → In (filter p xs) x → In (filter p (z ∷ xs)) x
    go true e ih = rw e (inr ih)
    go false e ih = rw e ih

pub filter_in : {X : Type 0} (p : X → Bool) (xs : List X) (x : X) → In (filter p xs) x → In xs x × (p x ≡ true)
filter_in p [] x h = absurd h
filter_in p (z ∷ xs) x h = go (p z) refl (filter_in p xs x)
  where
    go : (b : Bool) → p z ≡ b → (In (filter p xs) x → In xs x × (p x ≡ true)) → In (z ∷ xs) x × (p x ≡ true)
    go true e ih = elim (let k : In (z ∷ filter p xs) x = rw e at h in k) [ inl s ↦ (inl s, rw (sym s) e) | inr r ↦ (inr (ih r).0, (ih r).1) ]
    go false e ih = let r = ih (rw e at h) in (inr r.0, r.1)

pub in_range : (a n i : ℕ) → a ≤ i → i < a + n → In (range_with_len a n) i
in_range a zero i h k = absurd (omega (arith, h, k))
in_range a (suc n) i h k = elim (first_or_later a i h) [ inl e ↦ inl e | inr l ↦ inr (in_range (a + 1) n i l (omega arith)) ]
  where
    first_or_later : (a i : ℕ) → a ≤ i → (a ≡ i) ⊎ (a + 1 ≤ i)
    first_or_later zero zero h = inl refl
    first_or_later zero (suc i) h = inr (omega arith)
    first_or_later (suc a) zero h = absurd (omega (arith, h))
    first_or_later (suc a) (suc i) h = elim (first_or_later a i (omega (arith, h))) [ inl e ↦ inl (ap suc e) | inr l ↦ inr (omega (arith, l)) ]

-- an element of a list that is there only under a test, or for what an option has
pub if_in : {X : Type 0} (b : Bool) (xs : List X) (x : X) → In (if b then xs else []) x → (b ≡ true) × In xs x
if_in true xs x h = (refl, h)
if_in false xs x h = absurd h

pub option_in : {X Y : Type 0} (f : X → List Y) (o : Option X) (y : Y) → In (option_map_or f o []) y → (x : X) × (o ≡ Some x) × In (f x) y
option_in f None y h = absurd h
option_in f (Some x) y h = (x, refl, h)

pub one_in : {X : Type 0} (x y : X) → In (x ∷ []) y → x ≡ y
one_in x y (inl e) = e
one_in x y (inr h) = absurd h

pub get_left : {X : Type 0} (xs ys : List X) (i : ℕ) (x : X) → slice_get xs i ≡ Some x → slice_get (xs ++ ys) i ≡ Some x
get_left [] ys i x e = cc
get_left (z ∷ xs) ys zero x e = e
get_left (z ∷ xs) ys (suc i) x e = get_left xs ys i x e

pub get_in : {X : Type 0} (xs : List X) (i : ℕ) (x : X) → slice_get xs i ≡ Some x → In xs x
get_in [] i x e = cc
get_in (z ∷ xs) zero x e = inl cc
get_in (z ∷ xs) (suc i) x e = inr (get_in xs i x e)

pub all_in : {X : Type 0} (p : X → Bool) (xs : List X) (x : X) → list_all p xs ≡ true → In xs x → p x ≡ true
all_in p [] x a h = absurd h
all_in p (z ∷ xs) x a (inl e) = rw (sym e) ((and_parts (p z) (list_all p xs) a).0)
all_in p (z ∷ xs) x a (inr h) = all_in p xs x ((and_parts (p z) (list_all p xs) a).1) h

-- what is left from a place on
pub drop_get : {X : Type 0} (xs : List X) (i : ℕ) (x : X) (rest : List X) → drop i xs ≡ x ∷ rest → (slice_get xs i ≡ Some x) × (drop (suc i) xs ≡ rest) × (i < length xs)
drop_get [] zero x rest e = cc
drop_get [] (suc i) x rest e = cc
drop_get (z ∷ xs) zero x rest e = (cc, cc, omega arith)
drop_get (z ∷ xs) (suc i) x rest e = let r = drop_get xs i x rest e in (r.0, r.1, (let lt : i < length xs = r.2 in omega (arith, lt)))

pub drop_end : {X : Type 0} (xs : List X) (i : ℕ) → drop i xs ≡ [] → length xs ≤ i
drop_end [] i e = omega arith
drop_end (z ∷ xs) zero e = cc
drop_end (z ∷ xs) (suc i) e = let le : length xs ≤ i = drop_end xs i e in omega (arith, le)

pub in_each0 : {X Y : Type 0} (f : ℕ → X → List Y) (xs : List X) (j : ℕ) (x : X) (y : Y) → slice_get xs j ≡ Some x → In (f j x) y → In (each_at f 0 xs) y
in_each0 f xs j x y e k = in_each f 0 xs j x y e (rw (zero-add j) k)

pub each0_in : {X Y : Type 0} (f : ℕ → X → List Y) (xs : List X) (y : Y) → In (each_at f 0 xs) y → (j : ℕ) × (x : X) × (slice_get xs j ≡ Some x) × In (f j x) y
each0_in f xs y h = let r = each_in f 0 xs y h in (r.0, r.1, r.2, rw (zero-add r.0) at r.3)

pub get_below : {X : Type 0} (xs : List X) (i : ℕ) (x : X) → slice_get xs i ≡ Some x → i < length xs
get_below [] i x e = cc
get_below (z ∷ xs) zero x e = omega arith
get_below (z ∷ xs) (suc i) x e = let lt : i < length xs = get_below xs i x e in omega (arith, lt)

-- a set of links, by its test and by its elements
pub has_in : (s : List LinkId) (e : LinkId) → has s e ≡ true → In s e
has_in [] e h = cc
has_in (x ∷ s) e h = elim (or_cases (nat_eq x.0 e.0) (has s e) h) [ inl a ↦ inl (same_link x e a) | inr b ↦ inr (has_in s e b) ]

pub in_has : (s : List LinkId) (e : LinkId) → In s e → has s e ≡ true
in_has [] e h = absurd h
in_has (x ∷ s) e (inl a) = or_left (nat_eq x.0 e.0) (has s e) (eq-eqb x.0 e.0 (ap (λ (y : LinkId). y.0) a))
in_has (x ∷ s) e (inr b) = or_right (nat_eq x.0 e.0) (has s e) (in_has s e b)

pub length_zeros : (s : Encoding) → length (zeros s) ≡ s.terms
length_zeros s = length-replicate s.terms 0

pub range_in : (a n i : ℕ) → In (range_with_len a n) i → i < a + n
range_in a zero i h = absurd h
range_in a (suc n) i (inl e) = omega (arith, e)
range_in a (suc n) i (inr h) = let lt : i < a + 1 + n = range_in (a + 1) n i h in omega (arith, lt)
