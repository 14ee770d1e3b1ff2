-- Lists with one thing more at the end, and rules that hold.
use Rattle.std.proofs.Common.{◌≡◌, ℕ, zero, suc, ◌<◌, Bool, true, false, cond, ◌&&◌, ◌||◌, ◌==◌, nat_lt, List, [], ◌∷◌, ◌++◌, length, slice_get, position, Option, Some, None, Result, Ok, Err, refl, sym, ap, ◌∙◌, arith}
use Rattle.std.specs.Prelude.{is_none}
use Rattle.std.proofs.lemmas.Bool.{and_parts, and_from, or_parts, or_from, ltb-true}
use Rattle.std.proofs.lemmas.Bool.Decides.{nat_tests}
use Rattle.std.proofs.lemmas.List.Folds.{list_any-append, list_all-append}
use Rattle.std.specs.List.{list_any, list_all, position_or_len}
use Rattle.std.specs.Option.{option_map_or}
use Rattle.wi_net.specs.Builder.{◌>>=◌, rule, found_or}
use Rattle.wi_net.proofs.FindingLemmas.{any_within, none_any}

-- what passes the test for nothing is nothing
pub nothing_is : {X : Type 0} (o : Option X) → is_none o ≡ true → o ≡ None
nothing_is (Some x) e = cc
nothing_is None e = refl

-- nothing passes the test
pub is_nothing : {X : Type 0} (o : Option X) → o ≡ None → is_none o ≡ true
is_nothing o e = rw e refl

-- where nothing passes no place is found
pub none_from : {X : Type 0} (p : X → Bool) (xs : List X) → list_any p xs ≡ false → position p xs ≡ None
none_from p xs e = rw (sym (any_within p xs) ∙ e) refl

-- one thing more that doesn't pass
pub none_push : {X : Type 0} (p : X → Bool) (xs : List X) (y : X) → position p xs ≡ None → p y ≡ false → position p (xs ++ y ∷ []) ≡ None
none_push p xs y e f = none_from p (xs ++ y ∷ []) (list_any-append p xs (y ∷ []) ∙ or_from (list_any p xs) (p y || false) (none_any p xs e) (or_from (p y) false f refl))

-- the first doesn't pass, and none of the rest
pub none_parts : {X : Type 0} (p : X → Bool) (x : X) (xs : List X) → position p (x ∷ xs) ≡ None → (p x ≡ false) × (position p xs ≡ None)
none_parts p x xs e =
    let parts = or_parts (p x) (list_any p xs) (none_any p (x ∷ xs) e) in
    (parts.0, none_from p xs parts.1)

-- where all pass one test, and so fail another
no_any : {X : Type 0} (p q : X → Bool) (xs : List X) → ((x : X) → q x ≡ true → p x ≡ false) → list_all q xs ≡ true → list_any p xs ≡ false
no_any p q [] each all = refl
no_any p q (x ∷ xs) each all =
    let parts = and_parts (q x) (list_all q xs) all in
    or_from (p x) (list_any p xs) (each x parts.0) (no_any p q xs each parts.1)

-- no place is found for the other test
pub none_by : {X : Type 0} (p q : X → Bool) (xs : List X) → ((x : X) → q x ≡ true → p x ≡ false) → list_all q xs ≡ true → position p xs ≡ None
none_by p q xs each all = none_from p xs (no_any p q xs each all)

-- a place that is found is in the list
pub place_before : {X : Type 0} (p : X → Bool) (xs : List X) (i : ℕ) → position p xs ≡ Some i → i < length xs
place_before p xs i e = go (nat_lt (position_or_len p xs) (length xs)) (position_or_len p xs) refl e
  where
    go : (b : Bool) (k : ℕ) → nat_lt k (length xs) ≡ b → cond b (Some k) None ≡ Some i → i < length xs
    go true k lt h =
        let same : k ≡ i = cc in
        let less = ltb-true k (length xs) lt in
        omega arith
    go false k lt h = cc

-- all pass, and one thing more
pub all_push : {X : Type 0} (p : X → Bool) (xs : List X) (y : X) → list_all p xs ≡ true → p y ≡ true → list_all p (xs ++ y ∷ []) ≡ true
all_push p xs y all here = list_all-append p xs (y ∷ []) ∙ and_from (list_all p xs) (p y && true) all (and_from (p y) true here refl)

-- what stands at a place stands there when the list is longer
pub get_before : {X : Type 0} (xs ys : List X) (i : ℕ) (x : X) → slice_get xs i ≡ Some x → slice_get (xs ++ ys) i ≡ Some x
get_before [] ys i x e = cc
get_before (y ∷ xs) ys zero x e = e
get_before (y ∷ xs) ys (suc i) x e = get_before xs ys i x e

-- something stands at each place within a list
pub get_there : {X : Type 0} (xs : List X) (i : ℕ) → i < length xs → (x : X) × (slice_get xs i ≡ Some x)
get_there [] i lt = absurd (omega arith)
get_there (x ∷ xs) zero lt = (x, refl)
get_there (x ∷ xs) (suc i) lt = get_there xs i (omega (arith, lt))

-- and the new thing stands last
pub get_last : {X : Type 0} (xs : List X) (x : X) → slice_get (xs ++ x ∷ []) (length xs) ≡ Some x
get_last [] x = refl
get_last (y ∷ xs) x = get_last xs x

-- a test passes where it passes at each place
pub all_places : {X : Type 0} (p : X → Bool) (xs : List X) → ((i : ℕ) (x : X) → slice_get xs i ≡ Some x → p x ≡ true) → list_all p xs ≡ true
all_places p [] each = refl
all_places p (x ∷ xs) each = and_from (p x) (list_all p xs) (each 0 x refl) (all_places p xs (λ i y e. each (suc i) y e))

-- and a thing at a place passes
pub all_get : {X : Type 0} (p : X → Bool) (xs : List X) (i : ℕ) (x : X) → list_all p xs ≡ true → slice_get xs i ≡ Some x → p x ≡ true
all_get p [] i x all e = cc
all_get p (y ∷ xs) zero x all e =
    let same : y ≡ x = cc in
    ap p (sym same) ∙ (and_parts (p y) (list_all p xs) all).0
all_get p (y ∷ xs) (suc i) x all e = all_get p xs i x ((and_parts (p y) (list_all p xs) all).1) e

-- a thing that is there and passes
pub there_parts : {X : Type 0} (p : X → Bool) (o : Option X) → option_map_or p o false ≡ true → (x : X) × (o ≡ Some x) × (p x ≡ true)
there_parts p (Some x) e = (x, refl, e)
there_parts p None e = cc

-- a thing that is there and passes, under the test
pub there_from : {X : Type 0} (p : X → Bool) (o : Option X) (x : X) → o ≡ Some x → p x ≡ true → option_map_or p o false ≡ true
there_from p o x e here = rw e here

-- a rule before others held
pub rule_held : {A E : Type 0} (refusal : E) (test : Bool) (rest : Unit {0} → Result A E) (x : A) → (rule refusal test >>= rest) ≡ Ok x → (test ≡ true) × (rest tt ≡ Ok x)
rule_held refusal true rest x e = (refl, e)
rule_held refusal false rest x e = cc

-- a thing that had to be there was
pub found_held : {A B E : Type 0} (refusal : E) (o : Option A) (rest : A → Result B E) (x : B) → (found_or refusal o >>= rest) ≡ Ok x → (v : A) × (o ≡ Some v) × (rest v ≡ Ok x)
found_held refusal (Some v) rest x e = (v, refl, e)
found_held refusal None rest x e = cc

-- a step before others gave something
pub step_held : {A B E : Type 0} (step : Result A E) (rest : A → Result B E) (x : B) → (step >>= rest) ≡ Ok x → (v : A) × (step ≡ Ok v) × (rest v ≡ Ok x)
step_held (Ok v) rest x e = (v, refl, e)
step_held (Err r) rest x e = cc

-- two numbers are the same in either order
pub same_flip : (a b : ℕ) → (a == b) ≡ (b == a)
same_flip a b = grind (arith, nat_tests)

-- what was given is what is there
pub given_is : {A E : Type 0} (x y : A) → (let given : Result A E = Ok x in given ≡ Ok y) → x ≡ y
given_is x y e = cc
