-- Where things stand in lists, under a map.
use Rattle.std.proofs.Common.{◌≡◌, ℕ, ◌+◌, Bool, true, false, not, cond, map, List, [], ◌∷◌, ◌++◌, length, position, Some, None, String, Global, string_bytes, refl, sym, ap, ◌∙◌, arith}
use Rattle.std.specs.Prelude.{◌&&◌, ◌==◌, nat_lt}
use Rattle.std.specs.List.{prefix_len, position_or_len, list_any}
use Rattle.std.proofs.lemmas.Bool.Decides.{nat_tests}
use Rattle.std.proofs.lemmas.List.{length-map}
use Rattle.std.specs.Str.{bytes_eq}
use Rattle.std.specs.String.{string_eq}
use Rattle.std.proofs.lemmas.List.{map_push}
use Rattle.indexmap.specs.IndexSet.{insert_key}
use Rattle.wi_net.specs.Names.{with_name, number_of}

prefix_len-map : {X Y : Type 0} (f : X → Y) (p : Y → Bool) (xs : List X) → prefix_len p (map f xs) ≡ prefix_len (λ x. p (f x)) xs
prefix_len-map f p [] = refl
prefix_len-map f p (x ∷ xs) = ap (λ n. cond (p (f x)) (1 + n) 0) (prefix_len-map f p xs)

pub position-map : {X Y : Type 0} (f : X → Y) (p : Y → Bool) (xs : List X) → position p (map f xs) ≡ position (λ x. p (f x)) xs
position-map f p xs = rw (prefix_len-map f (λ y. not (p y)) xs, length-map) refl

pub any_within : {X : Type 0} (p : X → Bool) (xs : List X) → list_any p xs ≡ nat_lt (position_or_len p xs) (length xs)
any_within p [] = refl
any_within p (x ∷ xs) = go (p x) refl (any_within p xs)
  where
    go : (b : Bool) → p x ≡ b → list_any p xs ≡ nat_lt (position_or_len p xs) (length xs) → list_any p (x ∷ xs) ≡ nat_lt (position_or_len p (x ∷ xs)) (length (x ∷ xs))
    go true e ih = rw e (grind (arith, nat_tests))
    go false e ih = rw e (grind (arith, nat_tests, ih))

-- nothing passes where no place is found
pub none_any : {X : Type 0} (p : X → Bool) (xs : List X) → position p xs ≡ None → list_any p xs ≡ false
none_any p xs e = any_within p xs ∙ go (nat_lt (position_or_len p xs) (length xs)) (position_or_len p xs) e
  where
    go : (b : Bool) (i : ℕ) → cond b (Some i) None ≡ None → b ≡ false
    go true i h = cc
    go false i h = refl

-- a text that isn't there goes last
pub names_added : (keys after : List (String Global)) (text : String Global) (name : List ℕ) → string_bytes text ≡ name → position (bytes_eq name) (map string_bytes keys) ≡ None
    → after ≡ insert_key string_eq keys text → map string_bytes after ≡ map string_bytes keys ++ name ∷ []
names_added keys after text name is absent e =
    let free : list_any (λ k. bytes_eq name (string_bytes k)) keys ≡ false = none_any (λ k. bytes_eq name (string_bytes k)) keys (sym (position-map string_bytes (bytes_eq name) keys) ∙ absent) in
    let same : list_any (string_eq text) keys ≡ false = ap (λ n. list_any (λ k. bytes_eq n (string_bytes k)) keys) is ∙ free in
    let plain : after ≡ keys ++ text ∷ [] = e ∙ rw same refl in
    rw plain (map_push string_bytes keys text ∙ ap (λ n. map string_bytes keys ++ n ∷ []) is)

abbrev pair_test : ℕ → ℕ → ℕ × ℕ → Bool
pair_test a b k = (a == k.0) && (b == k.1)

-- a pair is found where what it was made of is
pub pair_found : {X : Type 0} (key : X → ℕ × ℕ) (keys : List (ℕ × ℕ)) (xs : List X) (a b : ℕ) → keys ≡ map key xs → position (λ k. (a == k.0) && (b == k.1)) keys ≡ position (λ x. (a == (key x).0) && (b == (key x).1)) xs
pair_found key keys xs a b e = ap (λ ks. position (λ k. (a == k.0) && (b == k.1)) ks) e ∙ position-map key (λ k. (a == k.0) && (b == k.1)) xs

-- a pair that isn't there goes last
pub pair_added : {X : Type 0} (key : X → ℕ × ℕ) (before after : List (ℕ × ℕ)) (xs : List X) (x : X) → before ≡ map key xs → position (λ y. ((key x).0 == (key y).0) && ((key x).1 == (key y).1)) xs ≡ None
    → after ≡ insert_key (λ j k. (j.0 == k.0) && (j.1 == k.1)) before (key x) → after ≡ map key (xs ++ x ∷ [])
pair_added {X} key before after xs x e free made =
    let none : position (pair_test (key x).0 (key x).1) before ≡ None = pair_found key before xs (key x).0 (key x).1 e ∙ free in
    let absent : list_any (λ k. ((key x).0 == k.0) && ((key x).1 == k.1)) before ≡ false = none_any {X = ℕ × ℕ} (pair_test (key x).0 (key x).1) before none in
    let plain : after ≡ before ++ key x ∷ [] = made ∙ rw absent refl in
    plain ∙ ap (λ ks. ks ++ key x ∷ []) e ∙ sym (map_push key xs x)

-- a text is put where it is, or last
pub names_put : (keys after : List (String Global)) (text : String Global) → after ≡ insert_key string_eq keys text → map string_bytes after ≡ with_name (map string_bytes keys) (string_bytes text)
names_put keys after text e = go (list_any (string_eq text) keys) refl
  where
    within : nat_lt (position_or_len (bytes_eq (string_bytes text)) (map string_bytes keys)) (length (map string_bytes keys)) ≡ list_any (string_eq text) keys
    within = rw (prefix_len-map string_bytes (λ y. not (bytes_eq (string_bytes text) y)) keys, length-map) (sym (any_within (string_eq text) keys))

    go : (b : Bool) → list_any (string_eq text) keys ≡ b → map string_bytes after ≡ with_name (map string_bytes keys) (string_bytes text)
    go true is = rw (e, is, within, is) refl
    go false is = rw (e, is, within, is) (map_push string_bytes keys text)

pub number_put : (keys : List (String Global)) (text : String Global) → position_or_len (string_eq text) keys ≡ number_of (map string_bytes keys) (string_bytes text)
number_put keys text = sym (prefix_len-map string_bytes (λ y. not (bytes_eq (string_bytes text) y)) keys)
