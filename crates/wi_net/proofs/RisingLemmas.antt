-- Places in a strictly rising list.
use Rattle.std.proofs.Common.{◌≡◌, ℕ, zero, suc, ◌<◌, ◌≤◌, Bool, true, false, not, ◌&&◌, ◌||◌, nat_eq, nat_lt, List, [], ◌∷◌, length, get_or, slice_get, refl, arith, ap, inl, inr, sym, ◌∙◌, one-add}
use Rattle.std.proofs.lemmas.Bool.{eqb-true, eqb-false, eq-eqb, ne_eqb, ltb-true, ltb-false, lt-ltb, le-ltb, and_parts, and_from, or_cases, or_left, or_parts, false_from_ne_true, true≢false}
use Rattle.std.specs.List.{filter, list_all, prefix_len, insert, remove, AllWithin}
use Rattle.std.specs.List.Sorted.{IsPartitionedBy}
use Rattle.std.specs.Option.{option_map_or}
use Rattle.wi_net.specs.declared.parts.LinkId.{LinkId}
use Rattle.wi_net.specs.LinkSet.{has, is_rising, with_link, without}
use Rattle.wi_net.specs.private.LinkSet.{place_in}
use Rattle.wi_net.proofs.SetLemmas.{same_link, all_at, all_from}

abbrev below : LinkId → LinkId → Bool
below l x = nat_lt x.0 l.0

-- an element of a list that passes at each element passes
pub all_get : (p : LinkId → Bool) (xs : List LinkId) (i : ℕ) (d : LinkId) → list_all p xs ≡ true → i < length xs → p (get_or xs i d) ≡ true
all_get p [] i d a h = absurd (omega (arith, h))
all_get p (x ∷ xs) zero d a h = (and_parts (p x) (list_all p xs) a).0
all_get p (x ∷ xs) (suc i) d a h = all_get p xs i d ((and_parts (p x) (list_all p xs) a).1) (omega (arith, h))

pub parted : (l : LinkId) (xs : List LinkId) → is_rising xs ≡ true → IsPartitionedBy (λ x. nat_lt x.0 l.0) xs
parted l [] r i j d le lt b = absurd (omega (arith, lt))
parted l (x ∷ xs) r zero zero d le lt b = b
parted l (x ∷ xs) r zero (suc j) d le lt b =
    let parts = and_parts (list_all (λ y. nat_lt x.0 y.0) xs) (is_rising xs) r in
    let up : x.0 < (get_or xs j d).0 = ltb-true x.0 (get_or xs j d).0 (all_get (λ y. nat_lt x.0 y.0) xs j d parts.0 (omega (arith, lt))) in
    lt-ltb x.0 l.0 (let more : (get_or xs j d).0 < l.0 = ltb-true (get_or xs j d).0 l.0 b in omega arith)
parted l (x ∷ xs) r (suc i) zero d le lt b = absurd (omega (arith, le))
parted l (x ∷ xs) r (suc i) (suc j) d le lt b = parted l xs ((and_parts (list_all (λ y. nat_lt x.0 y.0) xs) (is_rising xs) r).1) i j d (omega (arith, le)) (omega (arith, lt)) b

pub place_is : (p : LinkId → Bool) (xs : List LinkId) (k : ℕ) → k ≤ length xs → AllWithin (λ x. p x ≡ true) xs 0 k → AllWithin (λ x. p x ≡ false) xs k (length xs) → prefix_len p xs ≡ k
place_is p [] k h yes_below not_above = omega (arith, h)
place_is p (x ∷ xs) zero h yes_below not_above = let e : p x ≡ false = not_above 0 x (omega arith) (omega arith) in rw e refl
place_is p (x ∷ xs) (suc k) h yes_below not_above =
    let e : p x ≡ true = yes_below 0 x (omega arith) (omega arith) in
    let ih = place_is p xs k (omega (arith, h)) (λ i d lo hi. yes_below (suc i) d (omega arith) (omega (arith, hi))) (λ i d lo hi. not_above (suc i) d (omega (arith, lo)) (omega (arith, hi))) in
    rw e (omega (arith, ih))

-- no link of a list that lies above another is that one
pub has_above : (l : LinkId) (x : LinkId) (xs : List LinkId) → list_all (λ y. nat_lt x.0 y.0) xs ≡ true → l.0 ≤ x.0 → has xs l ≡ false
has_above l x xs a h = false_from_ne_true (has xs l) (λ i. absurd (omega (arith, h, ltb-true x.0 l.0 (all_at (λ y. nat_lt x.0 y.0) xs l a i))))

or_false : (b : Bool) → (b || false) ≡ b
or_false true = refl
or_false false = refl

not_same : (x l : LinkId) → nat_lt x.0 l.0 ≡ true → nat_eq x.0 l.0 ≡ false
not_same x l c = let up = ltb-true x.0 l.0 c in ne_eqb x.0 l.0 (λ e. absurd (omega arith))

not_above : (x l : LinkId) → nat_lt x.0 l.0 ≡ true → nat_lt l.0 x.0 ≡ false
not_above x l c = let up = ltb-true x.0 l.0 c in le-ltb l.0 x.0 (omega arith)

pub has_at_place : (xs : List LinkId) (l : LinkId) → is_rising xs ≡ true → has xs l ≡ option_map_or (λ (x : LinkId). nat_eq x.0 l.0) (slice_get xs (place_in xs l)) false
has_at_place [] l r = refl
has_at_place (x ∷ xs) l r = go (nat_lt x.0 l.0) refl (has_at_place xs l parts.1)
  where
    parts : (list_all (λ y. nat_lt x.0 y.0) xs ≡ true) × (is_rising xs ≡ true)
    parts = and_parts (list_all (λ y. nat_lt x.0 y.0) xs) (is_rising xs) r

    go : (c : Bool) → nat_lt x.0 l.0 ≡ c → has xs l ≡ option_map_or (λ (y : LinkId). nat_eq y.0 l.0) (slice_get xs (place_in xs l)) false → has (x ∷ xs) l ≡ option_map_or (λ (y : LinkId). nat_eq y.0 l.0) (slice_get (x ∷ xs) (place_in (x ∷ xs) l)) false
    go true c ih = rw (c, one-add, not_same x l c) ih
    go false c ih = rw (c, has_above l x xs parts.0 (ltb-false x.0 l.0 c)) (or_false (nat_eq x.0 l.0))

pub insert_is : (xs : List LinkId) (l : LinkId) → has xs l ≡ false → insert xs (place_in xs l) l ≡ with_link xs l
insert_is [] l h = refl
insert_is (x ∷ xs) l h = go (nat_lt x.0 l.0) refl (insert_is xs l parts.1)
  where
    parts : (nat_eq x.0 l.0 ≡ false) × (has xs l ≡ false)
    parts = or_parts (nat_eq x.0 l.0) (has xs l) h

    go : (c : Bool) → nat_lt x.0 l.0 ≡ c → insert xs (place_in xs l) l ≡ with_link xs l → insert (x ∷ xs) (place_in (x ∷ xs) l) l ≡ with_link (x ∷ xs) l
    go true c ih = rw (c, one-add, parts.0, not_above x l c) (ap (λ t. x ∷ t) ih)
    go false c ih =
        let up : nat_lt l.0 x.0 ≡ true = lt-ltb l.0 x.0 (let at_least = ltb-false x.0 l.0 c in let other : x.0 ≡ l.0 → ⊥ = eqb-false x.0 l.0 parts.0 in omega arith) in
        rw (c, up) refl

pub with_same : (xs : List LinkId) (l : LinkId) → is_rising xs ≡ true → has xs l ≡ true → with_link xs l ≡ xs
with_same [] l r h = cc
with_same (x ∷ xs) l r h =
    elim (or_cases (nat_eq x.0 l.0) (has xs l) h) [
      | inl eb ↦ (let no_less : nat_lt l.0 x.0 ≡ false = le-ltb l.0 x.0 (let e = eqb-true x.0 l.0 eb in omega arith) in rw (no_less, eb) refl)
      | inr more ↦
          (let up : nat_lt x.0 l.0 ≡ true = all_at (λ y. nat_lt x.0 y.0) xs l parts.0 more in
          rw (not_above x l up, not_same x l up) (ap (λ t. x ∷ t) (with_same xs l parts.1 more)))
    ]
  where
    parts : (list_all (λ y. nat_lt x.0 y.0) xs ≡ true) × (is_rising xs ≡ true)
    parts = and_parts (list_all (λ y. nat_lt x.0 y.0) xs) (is_rising xs) r

all_with : (p : LinkId → Bool) (xs : List LinkId) (l : LinkId) → list_all p xs ≡ true → p l ≡ true → list_all p (with_link xs l) ≡ true
all_with p [] l a pl = and_from (p l) true pl refl
all_with p (x ∷ xs) l a pl = go (nat_lt l.0 x.0) (nat_eq x.0 l.0) refl refl (all_with p xs l parts.1 pl)
  where
    parts : (p x ≡ true) × (list_all p xs ≡ true)
    parts = and_parts (p x) (list_all p xs) a

    go : (b c : Bool) → nat_lt l.0 x.0 ≡ b → nat_eq x.0 l.0 ≡ c → list_all p (with_link xs l) ≡ true → list_all p (with_link (x ∷ xs) l) ≡ true
    go true c eb ec ih = rw eb (and_from (p l) (p x && list_all p xs) pl a)
    go false true eb ec ih = rw (eb, ec) a
    go false false eb ec ih = rw (eb, ec) (and_from (p x) (list_all p (with_link xs l)) parts.0 ih)

pub with_rising : (xs : List LinkId) (l : LinkId) → is_rising xs ≡ true → is_rising (with_link xs l) ≡ true
with_rising [] l r = refl
with_rising (x ∷ xs) l r = go (nat_lt l.0 x.0) (nat_eq x.0 l.0) refl refl (with_rising xs l parts.1)
  where
    parts : (list_all (λ y. nat_lt x.0 y.0) xs ≡ true) × (is_rising xs ≡ true)
    parts = and_parts (list_all (λ y. nat_lt x.0 y.0) xs) (is_rising xs) r

    go : (b c : Bool) → nat_lt l.0 x.0 ≡ b → nat_eq x.0 l.0 ≡ c → is_rising (with_link xs l) ≡ true → is_rising (with_link (x ∷ xs) l) ≡ true
    go true c eb ec ih =
        rw eb (and_from (nat_lt l.0 x.0 && list_all (λ y. nat_lt l.0 y.0) xs) (is_rising (x ∷ xs))
        (and_from (nat_lt l.0 x.0) (list_all (λ y. nat_lt l.0 y.0) xs) eb
        (all_from (λ y. nat_lt l.0 y.0) xs (λ e h. lt-ltb l.0 e.0 (let a1 = ltb-true l.0 x.0 eb in let a2 = ltb-true x.0 e.0 (all_at (λ y. nat_lt x.0 y.0) xs e parts.0 h) in omega arith)))) r)
    go false true eb ec ih = rw (eb, ec) r
    go false false eb ec ih =
        let up : nat_lt x.0 l.0 ≡ true = lt-ltb x.0 l.0 (let a1 = ltb-false l.0 x.0 eb in let other : x.0 ≡ l.0 → ⊥ = eqb-false x.0 l.0 ec in omega arith) in
        rw (eb, ec) (and_from (list_all (λ y. nat_lt x.0 y.0) (with_link xs l)) (is_rising (with_link xs l)) (all_with (λ y. nat_lt x.0 y.0) xs l parts.0 up) ih)

-- a link that isn't there is taken out of nothing
pub without_same : (xs : List LinkId) (l : LinkId) → has xs l ≡ false → without xs l ≡ xs
without_same [] l h = refl
without_same (x ∷ xs) l h =
    let parts = or_parts (nat_eq x.0 l.0) (has xs l) h in
    rw parts.0 (ap (λ t. x ∷ t) (without_same xs l parts.1))

all_without : (p q : LinkId → Bool) (xs : List LinkId) → list_all p xs ≡ true → list_all p (filter q xs) ≡ true
all_without p q [] a = refl
all_without p q (x ∷ xs) a = go (q x) refl (all_without p q xs parts.1)
  where
    parts : (p x ≡ true) × (list_all p xs ≡ true)
    parts = and_parts (p x) (list_all p xs) a

    go : (c : Bool) → q x ≡ c → list_all p (filter q xs) ≡ true → list_all p (filter q (x ∷ xs)) ≡ true
    go true c ih = rw c (and_from (p x) (list_all p (filter q xs)) parts.0 ih)
    go false c ih = rw c ih

pub filter_rising : (q : LinkId → Bool) (xs : List LinkId) → is_rising xs ≡ true → is_rising (filter q xs) ≡ true
filter_rising q [] r = refl
filter_rising q (x ∷ xs) r = go (q x) refl (filter_rising q xs parts.1)
  where
    parts : (list_all (λ y. nat_lt x.0 y.0) xs ≡ true) × (is_rising xs ≡ true)
    parts = and_parts (list_all (λ y. nat_lt x.0 y.0) xs) (is_rising xs) r

    go : (c : Bool) → q x ≡ c → is_rising (filter q xs) ≡ true → is_rising (filter q (x ∷ xs)) ≡ true
    go true c ih = rw c (and_from (list_all (λ y. nat_lt x.0 y.0) (filter q xs)) (is_rising (filter q xs)) (all_without (λ y. nat_lt x.0 y.0) q xs parts.0) ih)
    go false c ih = rw c ih

pub remove_is : (xs : List LinkId) (l : LinkId) → is_rising xs ≡ true → has xs l ≡ true → (remove xs (place_in xs l) ≡ without xs l) × (place_in xs l < length xs)
remove_is [] l r h = cc
remove_is (x ∷ xs) l r h = go (nat_lt x.0 l.0) refl (remove_is xs l parts.1)
  where
    parts : (list_all (λ y. nat_lt x.0 y.0) xs ≡ true) × (is_rising xs ≡ true)
    parts = and_parts (list_all (λ y. nat_lt x.0 y.0) xs) (is_rising xs) r

    go : (c : Bool) → nat_lt x.0 l.0 ≡ c → (has xs l ≡ true → (remove xs (place_in xs l) ≡ without xs l) × (place_in xs l < length xs)) → (remove (x ∷ xs) (place_in (x ∷ xs) l) ≡ without (x ∷ xs) l) × (place_in (x ∷ xs) l < length (x ∷ xs))
    go true c ih =
        let other = not_same x l c in
        let there : has xs l ≡ true = elim (or_cases (nat_eq x.0 l.0) (has xs l) h) [ inl e ↦ absurd (true≢false (sym e ∙ other)) | inr m ↦ m ] in
        let rest = ih there in
        rw (c, one-add, other) (ap (λ t. x ∷ t) rest.0, omega (arith, rest.1))
    go false c ih =
        let none = has_above l x xs parts.0 (ltb-false x.0 l.0 c) in
        let here : nat_eq x.0 l.0 ≡ true = elim (or_cases (nat_eq x.0 l.0) (has xs l) h) [ inl e ↦ e | inr m ↦ absurd (true≢false (sym m ∙ none)) ] in
        rw (c, here) (sym (without_same xs l none), omega arith)

-- taking a link out is filtering
pub without_rising : (xs : List LinkId) (l : LinkId) → is_rising xs ≡ true → is_rising (without xs l) ≡ true
without_rising xs l r = filter_rising (λ x. not (nat_eq x.0 l.0)) xs r

pub remove_place : (xs : List LinkId) (l : LinkId) → is_rising xs ≡ true → has xs l ≡ true → remove xs (place_in xs l) ≡ without xs l
remove_place xs l r h = (remove_is xs l r h).0

pub place_within : (xs : List LinkId) (l : LinkId) → is_rising xs ≡ true → has xs l ≡ true → place_in xs l < length xs
place_within xs l r h = (remove_is xs l r h).1

pub ruleset rising_laws = (insert_is, with_same, with_rising, without_same, without_rising, remove_place, place_within)

-- rising lists with the same links are one
pub rising_same : (s t : List LinkId) → is_rising s ≡ true → is_rising t ≡ true → ((e : LinkId) → has s e ≡ has t e) → s ≡ t
rising_same [] [] rs rt each = refl
rising_same [] (y ∷ t) rs rt each = absurd (true≢false (sym (each y ∙ or_left (nat_eq y.0 y.0) (has t y) (eq-eqb y.0 y.0 refl))))
rising_same (x ∷ s) [] rs rt each = absurd (true≢false (sym (or_left (nat_eq x.0 x.0) (has s x) (eq-eqb x.0 x.0 refl)) ∙ each x))
rising_same (x ∷ s) (y ∷ t) rs rt each = rw same (ap (λ r. y ∷ r) (rising_same s t ps.1 pt.1 rest))
  where
    ps : (list_all (λ z. nat_lt x.0 z.0) s ≡ true) × (is_rising s ≡ true)
    ps = and_parts (list_all (λ z. nat_lt x.0 z.0) s) (is_rising s) rs

    pt : (list_all (λ z. nat_lt y.0 z.0) t ≡ true) × (is_rising t ≡ true)
    pt = and_parts (list_all (λ z. nat_lt y.0 z.0) t) (is_rising t) rt

    -- x is y or above it, and y is x or above it
    high : y.0 ≤ x.0
    high =
        elim (or_cases (nat_eq y.0 x.0) (has t x) (sym (each x) ∙ or_left (nat_eq x.0 x.0) (has s x) (eq-eqb x.0 x.0 refl))) [
          | inl e ↦ (let q = eqb-true y.0 x.0 e in omega arith)
          | inr i ↦ (let q = ltb-true y.0 x.0 (all_at (λ z. nat_lt y.0 z.0) t x pt.0 i) in omega arith)
        ]

    low : x.0 ≤ y.0
    low =
        elim (or_cases (nat_eq x.0 y.0) (has s y) (each y ∙ or_left (nat_eq y.0 y.0) (has t y) (eq-eqb y.0 y.0 refl))) [
          | inl e ↦ (let q = eqb-true x.0 y.0 e in omega arith)
          | inr i ↦ (let q = ltb-true x.0 y.0 (all_at (λ z. nat_lt x.0 z.0) s y ps.0 i) in omega arith)
        ]

    number : x.0 ≡ y.0
    number = omega (arith, high, low)

    same : x ≡ y
    same = same_link x y (eq-eqb x.0 y.0 number)

    rest : (e : LinkId) → has s e ≡ has t e
    rest e = go (nat_eq x.0 e.0) refl
      where
        go : (c : Bool) → nat_eq x.0 e.0 ≡ c → has s e ≡ has t e
        go true c =
            let at : x.0 ≡ e.0 = eqb-true x.0 e.0 c in
            has_above e x s ps.0 (omega (arith, at)) ∙ sym (has_above e y t pt.0 (omega (arith, at, number)))
        go false c =
            let d : nat_eq y.0 e.0 ≡ false = rw number at c in
            let h : (nat_eq x.0 e.0 || has s e) ≡ (nat_eq y.0 e.0 || has t e) = each e in
            let h2 = rw c at h in
            rw d at h2
