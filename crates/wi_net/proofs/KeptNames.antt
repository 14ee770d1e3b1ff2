-- Lists of names with a name more.
use Rattle.std.proofs.Common.{◌≡◌, ℕ, suc, ◌+◌, ◌<◌, ◌≤◌, Bool, true, false, not, ◌&&◌, ◌==◌, nat_lt, List, [], ◌∷◌, ◌++◌, length, Option, Some, None, refl, sym, ap, ◌∙◌, true≢false, arith, length-append}
use Rattle.std.specs.Prelude.{is_none}
use Rattle.std.specs.List.{prefix_len}
use Rattle.std.specs.Str.{bytes_eq}
use Rattle.std.proofs.lemmas.Bool.{and_parts, and_from, ltb-true, ltb-false, eq-eqb, false_from_ne_true}
use Rattle.std.proofs.lemmas.List.Sums.{prefix_len-le-length}
use Rattle.std.proofs.lemmas.Slice.Eq.{bytes_eq-Decides}
use Rattle.wi_net.specs.Names.{is_name, are_names, place, with_name, number_of}
use Rattle.wi_net.specs.Network.{named_next}
use Rattle.wi_net.proofs.KeptLists.{nothing_is, is_nothing, none_push, none_parts}

-- two names differ in either order
bytes_flip : (s t : List ℕ) → bytes_eq s t ≡ false → bytes_eq t s ≡ false
bytes_flip s t e = false_from_ne_true (bytes_eq t s) (λ h. true≢false (sym ((bytes_eq-Decides s t).1 (sym ((bytes_eq-Decides t s).0 h))) ∙ e))

-- a new name last
pub names_push : (names : List (List ℕ)) (t : List ℕ) → are_names names ≡ true → is_name t ≡ true → place names t ≡ None → are_names (names ++ t ∷ []) ≡ true
names_push [] t all good new = and_from (is_name t) true good refl
names_push (s ∷ names) t all good new =
    let parts = and_parts (is_name s) (is_none (place names s) && are_names names) all in
    let more = and_parts (is_none (place names s)) (are_names names) parts.1 in
    let apart = none_parts (bytes_eq t) s names new in
    let alone : place (names ++ t ∷ []) s ≡ None = none_push (bytes_eq s) names t (nothing_is (place names s) more.0) (bytes_flip t s apart.0) in
    and_from (is_name s) (is_none (place (names ++ t ∷ []) s) && are_names (names ++ t ∷ [])) parts.0
    (and_from (is_none (place (names ++ t ∷ []) s)) (are_names (names ++ t ∷ [])) (is_nothing (place (names ++ t ∷ []) s) alone) (names_push names t more.1 good apart.1))

-- a name last, unless it is there
pub names_with : (names : List (List ℕ)) (t : List ℕ) → are_names names ≡ true → is_name t ≡ true → are_names (with_name names t) ≡ true
names_with names t all good = go (place names t) refl
  where
    go : (o : Option ℕ) → place names t ≡ o → are_names (with_name names t) ≡ true
    go (Some i) e = rw e all
    go None e = rw e (names_push names t all good e)

-- a list of names grows by one at most
pub names_longer : (names : List (List ℕ)) (s : List ℕ) → (length names ≤ length (with_name names s)) × (length (with_name names s) ≤ length names + 1)
names_longer names s = go (place names s) refl
  where
    go : (o : Option ℕ) → place names s ≡ o → (length names ≤ length (with_name names s)) × (length (with_name names s) ≤ length names + 1)
    go (Some i) e = rw e (omega arith, omega arith)
    go None e = rw e (omega (arith, length-append names (s ∷ [])), omega (arith, length-append names (s ∷ [])))

-- the number of a name that was put is one of the list
pub number_within : (names : List (List ℕ)) (s : List ℕ) → number_of names s < length (with_name names s)
number_within names s = go (nat_lt (number_of names s) (length names)) refl
  where
    go : (b : Bool) → nat_lt (number_of names s) (length names) ≡ b → number_of names s < length (with_name names s)
    go true e = rw e (ltb-true (number_of names s) (length names) e)
    go false e = rw e (omega (arith, length-append names (s ∷ []), prefix_len-le-length (λ x. not (bytes_eq s x)) names))

-- and its number is the next one where it is new
pub number_next : (names : List (List ℕ)) (s : List ℕ) → named_next (Some (length names)) (number_of names s) ≡ Some (length (with_name names s))
number_next names s = go (nat_lt (number_of names s) (length names)) refl
  where
    go : (b : Bool) → nat_lt (number_of names s) (length names) ≡ b → named_next (Some (length names)) (number_of names s) ≡ Some (length (with_name names s))
    go true e = rw e refl
    go false e =
        let low = ltb-false (number_of names s) (length names) e in
        let last : (number_of names s == length names) ≡ true = eq-eqb (number_of names s) (length names) (omega (arith, low, prefix_len-le-length (λ x. not (bytes_eq s x)) names)) in
        let more : length names + 1 ≡ length (names ++ s ∷ []) = sym (length-append names (s ∷ [])) in
        rw (e, last) (ap Some more)

-- the length of a beginning that ends within a list stays when the list is longer
prefix_within : {X : Type 0} (p : X → Bool) (xs ys : List X) → prefix_len p xs < length xs → prefix_len p (xs ++ ys) ≡ prefix_len p xs
prefix_within p [] ys lt = absurd (omega arith)
prefix_within p (x ∷ xs) ys lt = go (p x) refl (prefix_within p xs ys)
  where
    go : (b : Bool) → p x ≡ b → (prefix_len p xs < length xs → prefix_len p (xs ++ ys) ≡ prefix_len p xs) → prefix_len p (x ∷ xs ++ ys) ≡ prefix_len p (x ∷ xs)
    go true e ih =
        let more : 1 + prefix_len p xs < suc (length xs) = rw e at lt in
        rw e (ap (λ n. 1 + n) (ih (omega (arith, more))))
    go false e ih = rw e refl

-- and one that takes a whole list isn't shorter then
prefix_past : {X : Type 0} (p : X → Bool) (xs ys : List X) → length xs ≤ prefix_len p xs → length xs ≤ prefix_len p (xs ++ ys)
prefix_past p [] ys le = omega arith
prefix_past p (x ∷ xs) ys le = go (p x) refl (prefix_past p xs ys)
  where
    go : (b : Bool) → p x ≡ b → (length xs ≤ prefix_len p xs → length xs ≤ prefix_len p (xs ++ ys)) → length (x ∷ xs) ≤ prefix_len p (x ∷ xs ++ ys)
    go true e ih =
        let more : suc (length xs) ≤ 1 + prefix_len p xs = rw e at le in
        let rest : length xs ≤ prefix_len p (xs ++ ys) = ih (omega (arith, more)) in
        rw e (omega (arith, rest))
    go false e ih =
        let more : suc (length xs) ≤ 0 = rw e at le in
        absurd (omega (arith, more))

-- the number of a name stays when another is put
pub number_kept : (names : List (List ℕ)) (t s : List ℕ) → number_of names s < length names → number_of (with_name names t) s ≡ number_of names s
number_kept names t s lt = go (nat_lt (number_of names t) (length names)) refl
  where
    go : (b : Bool) → nat_lt (number_of names t) (length names) ≡ b → number_of (with_name names t) s ≡ number_of names s
    go true e = rw e refl
    go false e = rw e (prefix_within (λ x. not (bytes_eq s x)) names (t ∷ []) lt)

-- and a name that isn't there gets a new number
pub number_past : (names : List (List ℕ)) (t s : List ℕ) → length names ≤ number_of names s → length names ≤ number_of (with_name names t) s
number_past names t s le = go (nat_lt (number_of names t) (length names)) refl
  where
    go : (b : Bool) → nat_lt (number_of names t) (length names) ≡ b → length names ≤ number_of (with_name names t) s
    go true e = rw e le
    go false e = rw e (prefix_past (λ x. not (bytes_eq s x)) names (t ∷ []) le)
