-- What is marked, and what marks keep.
use Rattle.std.proofs.Common.{◌≡◌, ℕ, zero, suc, ◌<◌, Bool, true, false, not, ◌&&◌, ◌||◌, ◌==◌, nat_lt, List, [], ◌∷◌, length, map, slice_get, slice_set, refl, arith, ap, sym, ◌∙◌}
use Rattle.std.specs.Prelude.{unwrap_or}
use Rattle.std.specs.List.{filter, list_any, range_with_len}
use Rattle.std.proofs.lemmas.Bool.{and_parts, ltb-true}
use Rattle.std.proofs.lemmas.Bool.Decides.{nat_tests}
use Rattle.std.proofs.lemmas.List.{length-map}
use Rattle.std.proofs.lemmas.List.FromFn.{length-range_with_len}
use Rattle.std.proofs.Math.ListN.{length-set}
use Rattle.wi_net.specs.declared.parts.LinkId.{LinkId}
use Rattle.wi_net.proofs.SetLemmas.{same_link}
use Rattle.wi_net.proofs.KeptLists.{same_flip}
use Rattle.wi_plan.specs.declared.plan.Bypass.{Bypass}
use Rattle.wi_bypass.specs.Bypasses.{each_once}
use Rattle.wi_bypass.specs.private.Marks.{no_marks, have_marks, are_within, is_marked, marked, once_by, marked_where}

next_same : (i j : ℕ) → (suc i == suc j) ≡ (i == j)
next_same i j = grind (arith, nat_tests)

zero_next : (j : ℕ) → (0 == suc j) ≡ false
zero_next j = grind (arith, nat_tests)

next_zero : (i : ℕ) → (suc i == 0) ≡ false
next_zero i = grind (arith, nat_tests)

set_read : (m : List Bool) (i j : ℕ) → i < length m → unwrap_or (slice_get (slice_set m i true) j) false ≡ ((i == j) || unwrap_or (slice_get m j) false)
set_read [] i j lt = absurd (omega (arith, lt))
set_read (y ∷ m) zero zero lt = refl
set_read (y ∷ m) zero (suc j) lt = ap (λ b. b || unwrap_or (slice_get m j) false) (sym (zero_next j))
set_read (y ∷ m) (suc i) zero lt = ap (λ b. b || y) (sym (next_zero i))
set_read (y ∷ m) (suc i) (suc j) lt = set_read m i j (omega (arith, lt)) ∙ ap (λ b. b || unwrap_or (slice_get m j) false) (sym (next_same i j))

-- a mark more
pub marked_at : (m : List Bool) (d e : LinkId) → d.0 < length m → is_marked (marked m d) e ≡ ((d.0 == e.0) || is_marked m e)
marked_at m d e lt = set_read m d.0 e.0 lt

pub marked_length : (m : List Bool) (d : LinkId) → length (marked m d) ≡ length m
marked_length m d = length-set m d.0 true

-- nothing is marked at first
pub none_marked : (n : ℕ) (e : LinkId) → is_marked (no_marks n) e ≡ false
none_marked n e = go (range_with_len 0 n) e.0
  where
    go : (ks : List ℕ) (i : ℕ) → unwrap_or (slice_get (map (λ (k : ℕ). false) ks) i) false ≡ false
    go [] i = refl
    go (k ∷ ks) zero = refl
    go (k ∷ ks) (suc i) = go ks i

pub no_marks_length : (n : ℕ) → length (no_marks n) ≡ n
no_marks_length n = rw (length-map, length-range_with_len) refl

-- two filters are one
pub filter_both : (p q r : LinkId → Bool) → ((x : LinkId) → r x ≡ (q x && p x)) → (xs : List LinkId) → filter p (filter q xs) ≡ filter r xs
filter_both p q r same [] = refl
filter_both p q r same (x ∷ xs) = go (q x) (p x) refl refl (filter_both p q r same xs)
  where
    go : (b c : Bool) → q x ≡ b → p x ≡ c → filter p (filter q xs) ≡ filter r xs → filter p (filter q (x ∷ xs)) ≡ filter r (x ∷ xs)
    go true true eq ep ih = rw (same x, eq, ep) (ap (λ t. x ∷ t) ih)
    go true false eq ep ih = rw (same x, eq, ep) ih
    go false c eq ep ih = rw (same x, eq) ih

-- what is left is each link once that isn't marked
pub once_is : (m : List Bool) (links : List LinkId) → have_marks (length m) links ≡ true → once_by m links ≡ filter (λ e. not (is_marked m e)) (each_once links)
once_is m [] h = refl
once_is m (e ∷ links) h = go (is_marked m e) refl (λ n k. once_is n links k)
  where
    parts : (nat_lt e.0 (length m) ≡ true) × (have_marks (length m) links ≡ true)
    parts = and_parts (nat_lt e.0 (length m)) (have_marks (length m) links) h

    old : LinkId → Bool
    old = λ x. not (is_marked m x)

    new : LinkId → Bool
    new = λ x. not (is_marked (marked m e) x)

    other : LinkId → Bool
    other = λ x. not (x.0 == e.0)

    marked_already : is_marked m e ≡ true → (x : LinkId) → old x ≡ (other x && old x)
    marked_already is x = at (x.0 == e.0) refl
      where
        at : (b : Bool) → (x.0 == e.0) ≡ b → old x ≡ (other x && old x)
        at true same = let here : is_marked m x ≡ true = ap (λ f. is_marked m f) (same_link x e same) ∙ is in rw (same, here) refl
        at false apart = rw apart refl

    marked_now : (x : LinkId) → new x ≡ (other x && old x)
    marked_now x = ap not (marked_at m e x (ltb-true e.0 (length m) parts.0)) ∙ ap (λ b. not (b || is_marked m x)) (same_flip e.0 x.0) ∙ split (x.0 == e.0) (is_marked m x)
      where
        split : (b c : Bool) → not (b || c) ≡ (not b && not c)
        split true c = refl
        split false c = refl

    go : (b : Bool) → is_marked m e ≡ b → ((n : List Bool) → have_marks (length n) links ≡ true → once_by n links ≡ filter (λ x. not (is_marked n x)) (each_once links)) → once_by m (e ∷ links) ≡ filter old (each_once (e ∷ links))
    go true is ih = rw is (ih m parts.1 ∙ sym (filter_both old other old (marked_already is) (each_once links)))
    go false is ih =
        let still : have_marks (length (marked m e)) links ≡ true = ap (λ n. have_marks n links) (marked_length m e) ∙ parts.1 in
        rw is (ap (λ t. e ∷ t) (ih (marked m e) still ∙ sym (filter_both old other new marked_now (each_once links))))

or_none : (b : Bool) → b ≡ (b || false)
or_none true = refl
or_none false = refl

-- what is marked besides
pub marked_where_at : (p : Bypass → Bool) (m : List Bool) (bs : List Bypass) (e : LinkId) → are_within (length m) bs ≡ true
    → is_marked (marked_where p m bs) e ≡ (is_marked m e || list_any (λ (b : Bypass). (b.link.0 == e.0) && p b) bs)
marked_where_at p m [] e h = or_none (is_marked m e)
marked_where_at p m (b ∷ bs) e h = go (p b) refl (λ n k. marked_where_at p n bs e k)
  where
    parts : (nat_lt b.link.0 (length m) ≡ true) × (are_within (length m) bs ≡ true)
    parts = and_parts (nat_lt b.link.0 (length m)) (are_within (length m) bs) h

    rest : Bool
    rest = list_any (λ (c : Bypass). (c.link.0 == e.0) && p c) bs

    turned : (x y z : Bool) → ((x || y) || z) ≡ (y || ((x && true) || z))
    turned true true z = refl
    turned true false z = refl
    turned false true z = refl
    turned false false z = refl

    skipped : (x y z : Bool) → (y || z) ≡ (y || ((x && false) || z))
    skipped true y z = refl
    skipped false y z = refl

    go : (c : Bool) → p b ≡ c → ((n : List Bool) → are_within (length n) bs ≡ true → is_marked (marked_where p n bs) e ≡ (is_marked n e || rest))
        → is_marked (marked_where p m (b ∷ bs)) e ≡ (is_marked m e || (((b.link.0 == e.0) && p b) || rest))
    go true is ih =
        let still : are_within (length (marked m b.link)) bs ≡ true = ap (λ n. are_within n bs) (marked_length m b.link) ∙ parts.1 in
        rw is (ih (marked m b.link) still ∙ ap (λ x. x || rest) (marked_at m b.link e (ltb-true b.link.0 (length m) parts.0)) ∙ turned (b.link.0 == e.0) (is_marked m e) rest)
    go false is ih = rw is (ih m parts.1 ∙ skipped (b.link.0 == e.0) (is_marked m e) rest)

pub marked_where_length : (p : Bypass → Bool) (m : List Bool) (bs : List Bypass) → length (marked_where p m bs) ≡ length m
marked_where_length p m [] = refl
marked_where_length p m (b ∷ bs) = go (p b) refl (λ n. marked_where_length p n bs)
  where
    go : (c : Bool) → p b ≡ c → ((n : List Bool) → length (marked_where p n bs) ≡ length n) → length (marked_where p m (b ∷ bs)) ≡ length m
    go true is ih = rw is (ih (marked m b.link) ∙ marked_length m b.link)
    go false is ih = rw is (ih m)
