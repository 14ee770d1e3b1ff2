-- Things that are added one after the other, and what the things of a list give.
use Rattle.std.proofs.Common.{◌≡◌, ℕ, zero, suc, ◌+◌, ◌<◌, ◌≤◌, Bool, true, false, cond, ◌||◌, List, [], ◌∷◌, ◌++◌, take, drop, length, slice_get, Some, refl, sym, ap, ◌∙◌, subst, arith, add-one}
use Rattle.std.specs.Prelude.{map}
use Rattle.std.specs.List.{list_any, range_with_len}
use Rattle.std.proofs.lemmas.Bool.{or_from, or_left, or_right}
use Rattle.std.proofs.lemmas.List.{append_assoc, append-nil, take_all}
use Rattle.std.proofs.lemmas.List.Folds.{list_any-append}
use Rattle.wi_labels.specs.declared.label.Class.{Class}
use Rattle.wi_labels.specs.Header.{same_class}
use Rattle.wi_net.specs.Builder.{Draft}
use Rattle.wi_net.proofs.PlaceLemmas.{longer}
use Rattle.wi_protect.specs.Labels.{names_of, each_from, numbered, numbered_to}
use Rattle.wi_protect.specs.private.Adding.{added, MayAdd, name_if}

pub may_front : {X : Type 0} (may : Draft → X → Type 0) (add : Draft → X → Draft) (d : Draft) (xs ys : List X) → MayAdd may add d (xs ++ ys) → MayAdd may add d xs
may_front may add d [] ys h = tt
may_front may add d (x ∷ xs) ys h = (h.0, may_front may add (add d x) xs ys h.1)

pub may_back : {X : Type 0} (may : Draft → X → Type 0) (add : Draft → X → Draft) (d : Draft) (xs ys : List X) → MayAdd may add d (xs ++ ys) → MayAdd may add (added add d xs) ys
may_back may add d [] ys h = h
may_back may add d (x ∷ xs) ys h = may_back may add (add d x) xs ys h.1

pub added_append : {X : Type 0} (add : Draft → X → Draft) (d : Draft) (xs ys : List X) → added add d (xs ++ ys) ≡ added add (added add d xs) ys
added_append add d [] ys = refl
added_append add d (x ∷ xs) ys = added_append add (add d x) xs ys

-- the thing at a place may be added
pub can_at : {X : Type 0} (may : Draft → X → Type 0) (add : Draft → X → Draft) (first d : Draft) (all : List X) (i : ℕ) (x : X) → MayAdd may add first all → d ≡ added add first (take i all) → slice_get all i ≡ Some x → may d x
can_at {X} may add first d all i x can now at = let P : Draft → Type 0 = λ e. may e x in subst P (sym now) (go first all i can at)
  where
    go : (e : Draft) (ys : List X) (j : ℕ) → MayAdd may add e ys → slice_get ys j ≡ Some x → may (added add e (take j ys)) x
    go e [] j h at = cc
    go e (y ∷ ys) zero h at = let same : y ≡ x = cc in let P : X → Type 0 = λ z. may e z in subst P same h.0
    go e (y ∷ ys) (suc j) h at = go (add e y) ys j h.1 at

-- and then one more is there
pub now_at : {X : Type 0} (add : Draft → X → Draft) (first d next : Draft) (all : List X) (i : ℕ) (x : X) → d ≡ added add first (take i all) → slice_get all i ≡ Some x → next ≡ add d x → next ≡ added add first (take (i + 1) all)
now_at add first d next all i x now at more =
    more ∙ ap (λ e. add e x) now ∙ sym (added_append add first (take i all) (x ∷ [])) ∙ ap (λ xs. added add first xs) (sym (longer all i x at))

-- the number of each thing of a list
abbrev pub number_at : {X : Type 0} → (X → ℕ) → ℕ → List X → ℕ → ℕ
number_at count n [] i = n
number_at count n (x ∷ xs) zero = n
number_at count n (x ∷ xs) (suc i) = number_at count (n + count x) xs i

pub number_first : {X : Type 0} (count : X → ℕ) (n : ℕ) (xs : List X) → n ≡ number_at count n xs 0
number_first count n [] = refl
number_first count n (x ∷ xs) = refl

pub number_next : {X : Type 0} (count : X → ℕ) (n : ℕ) (xs : List X) (i : ℕ) (x : X) → slice_get xs i ≡ Some x → number_at count n xs (i + 1) ≡ number_at count n xs i + count x
number_next count n [] i x at = cc
number_next count n (y ∷ []) zero x at = let same : y ≡ x = cc in ap (λ z. n + count z) same
number_next count n (y ∷ z ∷ xs) zero x at = let same : y ≡ x = cc in ap (λ z. n + count z) same
number_next count n (y ∷ xs) (suc i) x at = rw add-one (sym (rw add-one refl) ∙ number_next count (n + count y) xs i x at)

pub one_at : {X : Type 0} (n : ℕ) (xs : List X) (i : ℕ) (x : X) → slice_get xs i ≡ Some x → number_at (λ _. 1) n xs i ≡ n + i
one_at n [] i x at = cc
one_at n (y ∷ xs) zero x at = omega arith
one_at n (y ∷ xs) (suc i) x at = one_at (n + 1) xs i x at ∙ omega arith

-- what the things up to one more place give
pub each_next : {X Y : Type 0} (count : X → ℕ) (f : ℕ → X → List Y) (n : ℕ) (xs : List X) (i : ℕ) (x : X) → slice_get xs i ≡ Some x → each_from count f n (take (i + 1) xs) ≡ each_from count f n (take i xs) ++ f (number_at count n xs i) x
each_next count f n [] i x at = cc
each_next count f n (y ∷ xs) zero x at = let same : y ≡ x = cc in append-nil (f n y) ∙ ap (λ z. f n z) same
each_next count f n (y ∷ xs) (suc i) x at =
    rw add-one (ap (λ zs. f n y ++ zs) (sym (rw add-one refl) ∙ each_next count f (n + count y) xs i x at) ∙ sym (append_assoc (f n y) (each_from count f (n + count y) (take i xs)) (f (number_at count (n + count y) xs i) x)))

-- what all give, with one of them in the middle
pub each_split : {X Y : Type 0} (count : X → ℕ) (f : ℕ → X → List Y) (n : ℕ) (xs : List X) (i : ℕ) (x : X) → slice_get xs i ≡ Some x
    → each_from count f n xs ≡ each_from count f n (take i xs) ++ (f (number_at count n xs i) x ++ each_from count f (number_at count n xs i + count x) (drop (suc i) xs))
each_split count f n [] i x at = cc
each_split count f n (y ∷ xs) zero x at = let same : y ≡ x = cc in ap (λ z. f n z ++ each_from count f (n + count z) xs) same
each_split count f n (y ∷ xs) (suc i) x at =
    ap (λ zs. f n y ++ zs) (each_split count f (n + count y) xs i x at)
    ∙ sym (append_assoc (f n y) (each_from count f (n + count y) (take i xs)) (f (number_at count (n + count y) xs i) x ++ each_from count f (number_at count (n + count y) xs i + count x) (drop (suc i) xs)))

pub can_each : {X Y : Type 0} (count : X → ℕ) (f : ℕ → X → List Y) (may : Draft → Y → Type 0) (add : Draft → Y → Draft) (first d : Draft) (n m : ℕ) (xs : List X) (i : ℕ) (x : X)
    → MayAdd may add first (each_from count f n xs) → d ≡ added add first (each_from count f n (take i xs)) → slice_get xs i ≡ Some x → m ≡ number_at count n xs i → MayAdd may add d (f m x)
can_each {Y} count f may add first d n m xs i x can now at is =
    let P : List Y → Type 0 = λ ys. MayAdd may add first ys in
    let split : MayAdd may add first (each_from count f n (take i xs) ++ (f (number_at count n xs i) x ++ each_from count f (number_at count n xs i + count x) (drop (suc i) xs))) = subst P (each_split count f n xs i x at) can in
    let back = may_back may add first (each_from count f n (take i xs)) (f (number_at count n xs i) x ++ each_from count f (number_at count n xs i + count x) (drop (suc i) xs)) split in
    let here = may_front may add (added add first (each_from count f n (take i xs))) (f (number_at count n xs i) x) (each_from count f (number_at count n xs i + count x) (drop (suc i) xs)) back in
    let Q : Draft → Type 0 = λ e. MayAdd may add e (f (number_at count n xs i) x) in
    let R : ℕ → Type 0 = λ k. MayAdd may add d (f k x) in
    subst R (sym is) (subst Q (sym now) here)

pub now_each : {X Y : Type 0} (count : X → ℕ) (f : ℕ → X → List Y) (add : Draft → Y → Draft) (first d next : Draft) (n m : ℕ) (xs : List X) (i : ℕ) (x : X)
    → d ≡ added add first (each_from count f n (take i xs)) → slice_get xs i ≡ Some x → m ≡ number_at count n xs i → next ≡ added add d (f m x) → next ≡ added add first (each_from count f n (take (i + 1) xs))
now_each count f add first d next n m xs i x now at is more =
    more ∙ ap (λ k. added add d (f k x)) is ∙ ap (λ e. added add e (f (number_at count n xs i) x)) now
    ∙ sym (added_append add first (each_from count f n (take i xs)) (f (number_at count n xs i) x))
    ∙ ap (λ ys. added add first ys) (sym (each_next count f n xs i x at))

pub all_each : {X Y : Type 0} (count : X → ℕ) (f : ℕ → X → List Y) (add : Draft → Y → Draft) (first d : Draft) (n : ℕ) (xs : List X) (i : ℕ) → d ≡ added add first (each_from count f n (take i xs)) → length xs ≤ i → d ≡ added add first (each_from count f n xs)
all_each count f add first d n xs i now end = now ∙ ap (λ ys. added add first (each_from count f n ys)) (take_all i xs end)

-- tests of all that the things give
pub any_each : {X Y : Type 0} (count : X → ℕ) (f : ℕ → X → List Y) (p : Y → Bool) (n m : ℕ) (xs : List X) (i : ℕ) (x : X) → slice_get xs i ≡ Some x → m ≡ number_at count n xs i → list_any p (f m x) ≡ true → list_any p (each_from count f n xs) ≡ true
any_each count f p n m xs i x at is here =
    let found : list_any p (f (number_at count n xs i) x) ≡ true = ap (λ k. list_any p (f k x)) (sym is) ∙ here in
    let rest = each_from count f (number_at count n xs i + count x) (drop (suc i) xs) in
    ap (list_any p) (each_split count f n xs i x at) ∙ list_any-append p (each_from count f n (take i xs)) (f (number_at count n xs i) x ++ rest)
    ∙ or_right (list_any p (each_from count f n (take i xs))) (list_any p (f (number_at count n xs i) x ++ rest)) (list_any-append p (f (number_at count n xs i) x) rest ∙ or_left (list_any p (f (number_at count n xs i) x)) (list_any p rest) found)

pub none_each : {X Y : Type 0} (count : X → ℕ) (f : ℕ → X → List Y) (p : Y → Bool) (n m : ℕ) (xs : List X) (i : ℕ) (x : X) → slice_get xs i ≡ Some x → m ≡ number_at count n xs i → list_any p (each_from count f n (take i xs)) ≡ false → list_any p (f m x) ≡ false
    → list_any p (each_from count f n (take (i + 1) xs)) ≡ false
none_each count f p n m xs i x at is before here =
    ap (list_any p) (each_next count f n xs i x at) ∙ list_any-append p (each_from count f n (take i xs)) (f (number_at count n xs i) x)
    ∙ or_from (list_any p (each_from count f n (take i xs))) (list_any p (f (number_at count n xs i) x)) before (ap (λ k. list_any p (f k x)) (sym is) ∙ here)

pub any_at : {X : Type 0} (p : X → Bool) (xs : List X) (i : ℕ) (x : X) → slice_get xs i ≡ Some x → p x ≡ true → list_any p xs ≡ true
any_at p [] i x at here = cc
any_at p (y ∷ xs) zero x at here = let same : y ≡ x = cc in or_left (p y) (list_any p xs) (ap p same ∙ here)
any_at p (y ∷ xs) (suc i) x at here = or_right (p y) (list_any p xs) (any_at p xs i x at here)

pub none_next : {X : Type 0} (p : X → Bool) (xs : List X) (i : ℕ) (x : X) → slice_get xs i ≡ Some x → list_any p (take i xs) ≡ false → p x ≡ false → list_any p (take (i + 1) xs) ≡ false
none_next p xs i x at before here = ap (list_any p) (longer xs i x at) ∙ list_any-append p (take i xs) (x ∷ []) ∙ or_from (list_any p (take i xs)) (p x || false) before (or_from (p x) false here refl)

-- the names of one path or bypass
pub numbered_get : (letter : List ℕ) (a n i : ℕ) → i < n → slice_get (numbered_to letter a n) i ≡ Some (numbered letter a (i + 1))
numbered_get letter a n i lt = go n 1 i lt ∙ ap (λ b. Some (numbered letter a b)) (omega arith)
  where
    go : (n from i : ℕ) → i < n → slice_get (map (λ b. numbered letter a b) (range_with_len from n)) i ≡ Some (numbered letter a (from + i))
    go zero from i lt = absurd (omega arith)
    go (suc n) from zero lt = ap (λ b. Some (numbered letter a b)) (omega arith)
    go (suc n) from (suc i) lt = go n (from + 1) i (omega arith) ∙ ap (λ b. Some (numbered letter a b)) (omega arith)

-- the names of a class up to one more place
pub names_next : (class c : Class) (classes : List Class) (names : List (List ℕ)) (i : ℕ) (s : List ℕ) → slice_get classes i ≡ Some c → slice_get names i ≡ Some s
    → names_of class (take (i + 1) classes) (take (i + 1) names) ≡ names_of class (take i classes) (take i names) ++ name_if class c s
names_next class c [] names i s at named = cc
names_next class c (d ∷ classes) [] i s at named = cc
names_next class c (d ∷ classes) (t ∷ names) zero s at named =
    let same : d ≡ c = cc in
    let text : t ≡ s = cc in
    ap (λ x. name_if class x t) same ∙ ap (name_if class c) text
names_next class c (d ∷ classes) (t ∷ names) (suc i) s at named = rw add-one (go (same_class class d) (sym (rw add-one refl) ∙ names_next class c classes names i s at named))
  where
    go : (b : Bool) → names_of class (take (suc i) classes) (take (suc i) names) ≡ names_of class (take i classes) (take i names) ++ name_if class c s
        → cond b (t ∷ names_of class (take (suc i) classes) (take (suc i) names)) (names_of class (take (suc i) classes) (take (suc i) names)) ≡ cond b (t ∷ names_of class (take i classes) (take i names)) (names_of class (take i classes) (take i names)) ++ name_if class c s
    go true ih = ap (λ zs. t ∷ zs) ih
    go false ih = ih

pub names_split : (class c : Class) (classes : List Class) (names : List (List ℕ)) (i : ℕ) (s : List ℕ) → slice_get classes i ≡ Some c → slice_get names i ≡ Some s
    → names_of class classes names ≡ names_of class (take i classes) (take i names) ++ (name_if class c s ++ names_of class (drop (suc i) classes) (drop (suc i) names))
names_split class c [] names i s at named = cc
names_split class c (d ∷ classes) [] i s at named = cc
names_split class c (d ∷ classes) (t ∷ names) zero s at named =
    let same : d ≡ c = cc in
    let text : t ≡ s = cc in
    go (same_class class d) ∙ ap (λ x. name_if class x t ++ names_of class classes names) same ∙ ap (λ x. name_if class c x ++ names_of class classes names) text
  where
    go : (b : Bool) → cond b (t ∷ names_of class classes names) (names_of class classes names) ≡ cond b (t ∷ []) [] ++ names_of class classes names
    go true = refl
    go false = refl
names_split class c (d ∷ classes) (t ∷ names) (suc i) s at named = go (same_class class d) (names_split class c classes names i s at named)
  where
    rest : List (List ℕ)
    rest = name_if class c s ++ names_of class (drop (suc i) classes) (drop (suc i) names)

    go : (b : Bool) → names_of class classes names ≡ names_of class (take i classes) (take i names) ++ rest
        → cond b (t ∷ names_of class classes names) (names_of class classes names) ≡ cond b (t ∷ names_of class (take i classes) (take i names)) (names_of class (take i classes) (take i names)) ++ rest
    go true ih = ap (λ zs. t ∷ zs) ih
    go false ih = ih
