-- Names of a network, and ends of its links: no two are the same.
use Rattle.std.proofs.Common.{◌≡◌, ℕ, Bool, true, false, ◌&&◌, ◌==◌, List, [], ◌∷◌, ◌++◌, position, None, refl, sym, ◌∙◌, true≢false}
use Rattle.std.specs.Prelude.{is_none}
use Rattle.std.specs.Str.{bytes_eq}
use Rattle.std.proofs.lemmas.Bool.{and_parts, and_from, eq-eqb, false_from_ne_true}
use Rattle.std.proofs.lemmas.Slice.Eq.{bytes_eq-Decides}
use Rattle.wi_net.specs.declared.parts.Link.{Link}
use Rattle.wi_net.specs.Names.{is_name, place, are_names}
use Rattle.wi_net.specs.Ends.{is_out, is_in, are_ends_apart}
use Rattle.wi_net.proofs.KeptLists.{nothing_is, same_flip}
use Rattle.wi_net.proofs.PlaceLemmas.{IsApart}

bytes_self : (s : List ℕ) → bytes_eq s s ≡ true
bytes_self s = (bytes_eq-Decides s s).1 refl

bytes_flip : (s t : List ℕ) → bytes_eq s t ≡ false → bytes_eq t s ≡ false
bytes_flip s t e = false_from_ne_true (bytes_eq t s) (λ h. true≢false (sym ((bytes_eq-Decides s t).1 (sym ((bytes_eq-Decides t s).0 h))) ∙ e))

-- names are apart
pub names_apart : IsApart bytes_eq are_names
names_apart = record { flip = bytes_flip; self = bytes_self; head = head }
  where
    head : (s : List ℕ) (names : List (List ℕ)) → are_names (s ∷ names) ≡ true → (place names s ≡ None) × (are_names names ≡ true)
    head s names all =
        let parts = and_parts (is_name s) (is_none (place names s) && are_names names) all in
        let more = and_parts (is_none (place names s)) (are_names names) parts.1 in
        (nothing_is (place names s) more.0, more.1)

-- a name among names is a name
pub name_in : (pre post : List (List ℕ)) (s : List ℕ) → are_names (pre ++ s ∷ post) ≡ true → is_name s ≡ true
name_in [] post s all = (and_parts (is_name s) (is_none (place post s) && are_names post) all).0
name_in (x ∷ pre) post s all = name_in pre post s ((names_apart.head x (pre ++ s ∷ post) all).1)

-- links are apart by either end
pub test_flip : (a b c d : ℕ) → ((a == b) && (c == d)) ≡ false → ((b == a) && (d == c)) ≡ false
test_flip a b c d e = rw (same_flip b a, same_flip d c) e

pub test_self : (a b : ℕ) → ((a == a) && (b == b)) ≡ true
test_self a b = and_from (a == a) (b == b) (eq-eqb a a refl) (eq-eqb b b refl)

abbrev pub same_out : Link → Link → Bool
same_out x y = is_out x.from x.out_if y

abbrev pub same_in : Link → Link → Bool
same_in x y = is_in x.to x.in_if y

pub outs_apart : IsApart same_out are_ends_apart
outs_apart = record { flip = λ x y e. test_flip x.from.0 y.from.0 x.out_if.0 y.out_if.0 e; self = λ x. test_self x.from.0 x.out_if.0; head = head }
  where
    head : (x : Link) (xs : List Link) → are_ends_apart (x ∷ xs) ≡ true → (position (same_out x) xs ≡ None) × (are_ends_apart xs ≡ true)
    head x xs all =
        let parts = and_parts (is_none (position (same_out x) xs)) (is_none (position (same_in x) xs) && are_ends_apart xs) all in
        let more = and_parts (is_none (position (same_in x) xs)) (are_ends_apart xs) parts.1 in
        (nothing_is (position (same_out x) xs) parts.0, more.1)

pub ins_apart : IsApart same_in are_ends_apart
ins_apart = record { flip = λ x y e. test_flip x.to.0 y.to.0 x.in_if.0 y.in_if.0 e; self = λ x. test_self x.to.0 x.in_if.0; head = head }
  where
    head : (x : Link) (xs : List Link) → are_ends_apart (x ∷ xs) ≡ true → (position (same_in x) xs ≡ None) × (are_ends_apart xs ≡ true)
    head x xs all =
        let parts = and_parts (is_none (position (same_out x) xs)) (is_none (position (same_in x) xs) && are_ends_apart xs) all in
        let more = and_parts (is_none (position (same_in x) xs)) (are_ends_apart xs) parts.1 in
        (nothing_is (position (same_in x) xs) more.0, more.1)
