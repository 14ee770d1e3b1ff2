-- The names of a plan's network are names, no two of them the same.
use Rattle.std.proofs.Common.{◌≡◌, ℕ, zero, suc, ◌+◌, ◌%◌, ◌^◌, ◌<◌, ◌≤◌, Bool, true, false, ◌&&◌, nat_lt, nat_le, ◌⊎◌, inl, inr, List, [], ◌∷◌, ◌++◌, length, map, slice_get, position, Option, Some, None, refl, sym, ap, ◌∙◌, subst, arith, lit<, true≢false}
use Rattle.std.specs.Prelude.{codes, decimal, is_none, is_some}
use Rattle.std.specs.List.{list_all, list_any, range_with_len}
use Rattle.std.specs.Str.{bytes_eq}
use Rattle.std.proofs.lemmas.Bool.{and_parts, and_from, or_parts, or_from, le-leb, leb-true, ltb-false, false_from_ne_true}
use Rattle.std.proofs.lemmas.Bool.Decides.{nat_tests}
use Rattle.std.proofs.lemmas.Fmt.{decimal_by_steps, decimal_injective, length-decimal-le}
use Rattle.std.proofs.lemmas.List.{append_assoc, append_cancel_left, length-append}
use Rattle.std.proofs.lemmas.List.Folds.{list_any-append, list_all-append}
use Rattle.std.proofs.lemmas.Slice.Eq.{bytes_eq-Decides}
use Rattle.wi_labels.specs.declared.label.Class.{Class}
use Rattle.wi_labels.specs.declared.label.Class.TheVariants.{Mpls, Smpls, Ip}
use Rattle.wi_text.specs.Characters.{is_name_byte}
use Rattle.wi_net.specs.Names.{is_name, place, are_names}
use Rattle.wi_net.specs.Net.{Net}
use Rattle.wi_net.specs.Network.{IsNetwork, is_no_later, are_in_order}
use Rattle.wi_net.proofs.FindingLemmas.{none_any}
use Rattle.wi_net.proofs.KeptLists.{none_from, nothing_is, is_nothing, get_before}
use Rattle.wi_net.proofs.PlaceLemmas.{none_at}
use Rattle.wi_plan.specs.declared.plan.Plan.{Plan}
use Rattle.wi_protect.specs.Labels.{names_of, numbered, numbered_to, path_labels, bypass_labels, paths_labels, bypasses_labels, paths_names, bypasses_names, label_names, new_labels}
use Rattle.wi_protect.specs.Refusals.{is_taken, has_taken, has_too_many}
use Rattle.wi_protect.proofs.Placing.{none_get}
use Rattle.wi_protect.proofs.NameLemmas.{names_each}

-- nothing of one list is in the other
abbrev pub Cross : List (List ℕ) → List (List ℕ) → Type 0
Cross xs ys = (i j : ℕ) (s t : List ℕ) → slice_get xs i ≡ Some s → slice_get ys j ≡ Some t → s ≡ t → ⊥

cross_sym : (xs ys : List (List ℕ)) → Cross xs ys → Cross ys xs
cross_sym xs ys c i j s t a b e = c j i t s b a (sym e)

get_behind : (xs ys : List (List ℕ)) (j : ℕ) (t : List ℕ) → slice_get ys j ≡ Some t → slice_get (xs ++ ys) (length xs + j) ≡ Some t
get_behind [] ys j t at = let e : 0 + j ≡ j = omega arith in ap (λ k. slice_get ys k) e ∙ at
get_behind (x ∷ xs) ys j t at = let e : suc (length xs) + j ≡ suc (length xs + j) = omega arith in ap (λ k. slice_get (x ∷ xs ++ ys) k) e ∙ get_behind xs ys j t at

get_split : (xs ys : List (List ℕ)) (j : ℕ) (t : List ℕ) → slice_get (xs ++ ys) j ≡ Some t → (slice_get xs j ≡ Some t) ⊎ ((k : ℕ) × (slice_get ys k ≡ Some t))
get_split [] ys j t at = inr (j, at)
get_split (x ∷ xs) ys zero t at = inl at
get_split (x ∷ xs) ys (suc j) t at = get_split xs ys j t at

cross_front : (xs ys zs : List (List ℕ)) → Cross (xs ++ ys) zs → Cross xs zs
cross_front xs ys zs c i j s t a b e = c i j s t (get_before xs ys i s a) b e

cross_back : (xs ys zs : List (List ℕ)) → Cross (xs ++ ys) zs → Cross ys zs
cross_back xs ys zs c i j s t a b e = c (length xs + i) j s t (get_behind xs ys i s a) b e

cross_both : (xs ys zs : List (List ℕ)) → Cross xs zs → Cross ys zs → Cross (xs ++ ys) zs
cross_both xs ys zs c d i j s t a b e = elim (get_split xs ys i s a) [ inl here ↦ c i j s t here b e | inr there ↦ d there.0 j s t there.1 b e ]

none_of : (s : List ℕ) (ys : List (List ℕ)) → ((j : ℕ) (t : List ℕ) → slice_get ys j ≡ Some t → s ≡ t → ⊥) → list_any (bytes_eq s) ys ≡ false
none_of s [] c = refl
none_of s (y ∷ ys) c =
    or_from (bytes_eq s y) (list_any (bytes_eq s) ys)
    (false_from_ne_true (bytes_eq s y) (λ h. c 0 y refl ((bytes_eq-Decides s y).0 h)))
    (none_of s ys (λ j t at. c (suc j) t at))

-- names that are put together, and taken apart
join : (xs ys : List (List ℕ)) → are_names xs ≡ true → are_names ys ≡ true → Cross xs ys → are_names (xs ++ ys) ≡ true
join [] ys a b c = b
join (s ∷ xs) ys a b c =
    let parts = and_parts (is_name s) (is_none (place xs s) && are_names xs) a in
    let more = and_parts (is_none (place xs s)) (are_names xs) parts.1 in
    let here : list_any (bytes_eq s) xs ≡ false = none_any (bytes_eq s) xs (nothing_is (place xs s) more.0) in
    let there : list_any (bytes_eq s) ys ≡ false = none_of s ys (λ j t at e. c 0 j s t refl at e) in
    let free : place (xs ++ ys) s ≡ None = none_from (bytes_eq s) (xs ++ ys) (list_any-append (bytes_eq s) xs ys ∙ or_from (list_any (bytes_eq s) xs) (list_any (bytes_eq s) ys) here there) in
    and_from (is_name s) (is_none (place (xs ++ ys) s) && are_names (xs ++ ys)) parts.0
    (and_from (is_none (place (xs ++ ys) s)) (are_names (xs ++ ys)) (is_nothing (place (xs ++ ys) s) free) (join xs ys more.1 b (λ i j u t p q e. c (suc i) j u t p q e)))

record Parts (xs ys : List (List ℕ)) : Type 0 where
  front : are_names xs ≡ true
  back : are_names ys ≡ true
  cross : Cross xs ys

parts : (xs ys : List (List ℕ)) → are_names (xs ++ ys) ≡ true → Parts xs ys
parts [] ys h = record { front = refl; back = h; cross = λ i j s t a b e. let none : ◌≡◌ {A = Option (List ℕ)} None (Some s) = a in cc }
parts (s ∷ xs) ys h = go (parts xs ys more.1)
  where
    both : (is_name s ≡ true) × ((is_none (place (xs ++ ys) s) && are_names (xs ++ ys)) ≡ true)
    both = and_parts (is_name s) (is_none (place (xs ++ ys) s) && are_names (xs ++ ys)) h

    more : (is_none (place (xs ++ ys) s) ≡ true) × (are_names (xs ++ ys) ≡ true)
    more = and_parts (is_none (place (xs ++ ys) s)) (are_names (xs ++ ys)) both.1

    none : position (bytes_eq s) (xs ++ ys) ≡ None
    none = nothing_is (place (xs ++ ys) s) more.0

    here : list_any (bytes_eq s) xs ≡ false
    here = (or_parts (list_any (bytes_eq s) xs) (list_any (bytes_eq s) ys) (sym (list_any-append (bytes_eq s) xs ys) ∙ none_any (bytes_eq s) (xs ++ ys) none)).0

    go : Parts xs ys → Parts (s ∷ xs) ys
    go p = record {
      front = and_from (is_name s) (is_none (place xs s) && are_names xs) both.0 (and_from (is_none (place xs s)) (are_names xs) (is_nothing (place xs s) (none_from (bytes_eq s) xs here)) p.front);
      back = p.back;
      cross = cross;
    }
      where
        cross : Cross (s ∷ xs) ys
        cross zero j u t a b e =
            let same : s ≡ u = cc in
            let other : bytes_eq s t ≡ false = none_at (bytes_eq s) (xs ++ ys) (length xs + j) t none (get_behind xs ys j t b) in
            true≢false (sym ((bytes_eq-Decides s t).1 (same ∙ e)) ∙ other)
        cross (suc i) j u t a b e = p.cross i j u t a b e

-- the labels of a network, class by class
no_mpls : (classes : List Class) (names : List (List ℕ)) → list_all (is_no_later Smpls) classes ≡ true → names_of Mpls classes names ≡ []
no_mpls [] names h = refl
no_mpls (Mpls ∷ classes) names h = cc
no_mpls (Smpls ∷ classes) [] h = refl
no_mpls (Smpls ∷ classes) (s ∷ names) h = no_mpls classes names h
no_mpls (Ip ∷ classes) [] h = refl
no_mpls (Ip ∷ classes) (s ∷ names) h = no_mpls classes names h

ip_alone : (classes : List Class) (names : List (List ℕ)) → list_all (is_no_later Ip) classes ≡ true → (names_of Mpls classes names ≡ []) × (names_of Smpls classes names ≡ [])
ip_alone [] names h = (refl, refl)
ip_alone (Mpls ∷ classes) names h = cc
ip_alone (Smpls ∷ classes) names h = cc
ip_alone (Ip ∷ classes) [] h = (refl, refl)
ip_alone (Ip ∷ classes) (s ∷ names) h = ip_alone classes names h

sorted : (classes : List Class) (names : List (List ℕ)) → length classes ≡ length names → are_in_order classes ≡ true → names_of Mpls classes names ++ (names_of Smpls classes names ++ names_of Ip classes names) ≡ names
sorted [] [] same order = refl
sorted [] (s ∷ names) same order = absurd (omega arith)
sorted (c ∷ classes) [] same order = absurd (omega arith)
sorted (Mpls ∷ classes) (s ∷ names) same order =
    ap (λ xs. s ∷ xs) (sorted classes names (omega arith) (and_parts (list_all (is_no_later Mpls) classes) (are_in_order classes) order).1)
sorted (Smpls ∷ classes) (s ∷ names) same order =
    let p = and_parts (list_all (is_no_later Smpls) classes) (are_in_order classes) order in
    let none = no_mpls classes names p.0 in
    let rest = sorted classes names (omega arith) p.1 in
    rw none (ap (λ xs. s ∷ xs) (sym (ap (λ xs. xs ++ (names_of Smpls classes names ++ names_of Ip classes names)) none) ∙ rest))
sorted (Ip ∷ classes) (s ∷ names) same order =
    let p = and_parts (list_all (is_no_later Ip) classes) (are_in_order classes) order in
    let none = ip_alone classes names p.0 in
    let rest = sorted classes names (omega arith) p.1 in
    rw (none.0, none.1) (ap (λ xs. s ∷ xs) (sym (ap (λ xs. xs ++ (names_of Smpls classes names ++ names_of Ip classes names)) none.0 ∙ ap (λ xs. xs ++ names_of Ip classes names) none.1) ∙ rest))

-- the digits of a number
digits_named : (r : ℕ) → r < 2 ^ 64 → list_all is_name_byte (decimal r) ≡ true
digits_named r lt = decimal_by_steps (λ n ds. list_all is_name_byte ds ≡ true) one more r lt
  where
    digit : (d : ℕ) → d < 10 → is_name_byte (48 + d) ≡ true
    digit d lt = grind (arith, nat_tests)

    one : (n : ℕ) → n < 10 → list_all is_name_byte ((48 + n) ∷ []) ≡ true
    one n lt = rw (digit n lt) refl

    more : (n : ℕ) (ds : List ℕ) → 10 ≤ n → list_all is_name_byte ds ≡ true → list_all is_name_byte (ds ++ ((48 + n % 10) ∷ [])) ≡ true
    more n ds le all = list_all-append is_name_byte ds ((48 + n % 10) ∷ []) ∙ rw (all, digit (n % 10) (omega arith)) refl

no_dot : (r : ℕ) → r < 2 ^ 64 → list_all (λ b. nat_lt 46 b) (decimal r) ≡ true
no_dot r lt = decimal_by_steps (λ n ds. list_all (λ b. nat_lt 46 b) ds ≡ true) one more r lt
  where
    digit : (d : ℕ) → nat_lt 46 (48 + d) ≡ true
    digit d = grind (arith, nat_tests)

    one : (n : ℕ) → n < 10 → list_all (λ b. nat_lt 46 b) ((48 + n) ∷ []) ≡ true
    one n lt = rw (digit n) refl

    more : (n : ℕ) (ds : List ℕ) → 10 ≤ n → list_all (λ b. nat_lt 46 b) ds ≡ true → list_all (λ b. nat_lt 46 b) (ds ++ ((48 + n % 10) ∷ [])) ≡ true
    more n ds le all = list_all-append (λ b. nat_lt 46 b) ds ((48 + n % 10) ∷ []) ∙ rw (all, digit (n % 10)) refl

-- a name's parts can be told
dot_split : (xs ys us vs : List ℕ) → list_all (λ b. nat_lt 46 b) xs ≡ true → list_all (λ b. nat_lt 46 b) us ≡ true → xs ++ 46 ∷ ys ≡ us ++ 46 ∷ vs → (xs ≡ us) × (ys ≡ vs)
dot_split [] ys [] vs a b e = (refl, cc)
dot_split [] ys (u ∷ us) vs a b e =
    let same : 46 ≡ u = cc in
    let big : nat_lt 46 u ≡ true = (and_parts (nat_lt 46 u) (list_all (λ b. nat_lt 46 b) us) b).0 in
    absurd (true≢false (sym big ∙ ap (λ n. nat_lt 46 n) (sym same)))
dot_split (x ∷ xs) ys [] vs a b e =
    let same : x ≡ 46 = cc in
    let big : nat_lt 46 x ≡ true = (and_parts (nat_lt 46 x) (list_all (λ b. nat_lt 46 b) xs) a).0 in
    absurd (true≢false (sym big ∙ ap (λ n. nat_lt 46 n) same))
dot_split (x ∷ xs) ys (u ∷ us) vs a b e =
    let heads : x ≡ u = cc in
    let tails : xs ++ 46 ∷ ys ≡ us ++ 46 ∷ vs = cc in
    let rest = dot_split xs ys us vs (and_parts (nat_lt 46 x) (list_all (λ b. nat_lt 46 b) xs) a).1 (and_parts (nat_lt 46 u) (list_all (λ b. nat_lt 46 b) us) b).1 tails in
    (ap (λ z. z ∷ xs) heads ∙ ap (λ zs. u ∷ zs) rest.0, rest.1)

plain : (letter : List ℕ) (a b : ℕ) → numbered letter a b ≡ letter ++ (decimal a ++ 46 ∷ decimal b)
plain letter a b = append_assoc (letter ++ decimal a) (46 ∷ []) (decimal b) ∙ append_assoc letter (decimal a) (46 ∷ decimal b)

pub same_numbers : (letter : List ℕ) (a b c d : ℕ) → a < 2 ^ 64 → b < 2 ^ 64 → c < 2 ^ 64 → d < 2 ^ 64 → numbered letter a b ≡ numbered letter c d → (a ≡ c) × (b ≡ d)
same_numbers letter a b c d al bl cl dl e =
    let e2 : decimal a ++ 46 ∷ decimal b ≡ decimal c ++ 46 ∷ decimal d = append_cancel_left letter (decimal a ++ 46 ∷ decimal b) (decimal c ++ 46 ∷ decimal d) (sym (plain letter a b) ∙ e ∙ plain letter c d) in
    let p = dot_split (decimal a) (decimal b) (decimal c) (decimal d) (no_dot a al) (no_dot c cl) e2 in
    (decimal_injective a c al cl p.0, decimal_injective b d bl dl p.1)

-- and it is a name
pub numbered_named : (x a b : ℕ) → is_name_byte x ≡ true → a < 2 ^ 64 → b ≤ 20000 → is_name (numbered (x ∷ []) a b) ≡ true
numbered_named x a b letter al bl = ap is_name (plain (x ∷ []) a b) ∙ named
  where
    wide : b < 2 ^ 64
    wide = let top : 20000 < 2 ^ 64 = lit< tt in omega arith

    text : List ℕ
    text = decimal a ++ 46 ∷ decimal b

    short : length text ≤ 27
    short =
        let top : 2 ^ 64 < 10 ^ 20 = lit< tt in
        let low : 20000 < 10 ^ 5 = lit< tt in
        let one = length-decimal-le 20 a (lit< tt) (omega arith) al in
        let two = length-decimal-le 5 b (lit< tt) (omega arith) wide in
        omega (arith, one, two, length-append (decimal a) (46 ∷ decimal b))

    bytes : list_all is_name_byte text ≡ true
    bytes = list_all-append is_name_byte (decimal a) (46 ∷ decimal b) ∙ and_from (list_all is_name_byte (decimal a)) (list_all is_name_byte (46 ∷ decimal b)) (digits_named a al) (digits_named b wide)

    named : is_name (x ∷ text) ≡ true
    named = rw (le-leb 1 (suc (length text)) (omega arith), le-leb (suc (length text)) 32 (omega (arith, short)), letter, bytes) refl

-- what the names of paths, or of bypasses, are: the first number from one on and so many, the second from 1 up to a limit
record IsNumbered (letter : List ℕ) (low count : ℕ) (s : List ℕ) : Type 0 where
  a : ℕ
  b : ℕ
  is : s ≡ numbered letter a b
  least : low ≤ a
  most : a < low + count
  few : b ≤ 20000

-- labels of each thing are few
abbrev pub are_few : {X : Type 0} → (X → ℕ) → List X → Bool
are_few labels xs = list_all (λ x. nat_le (labels x) 20000) xs

numbered_at : (letter : List ℕ) (a from n i : ℕ) (s : List ℕ) → slice_get (map (λ b. numbered letter a b) (range_with_len from n)) i ≡ Some s → (b : ℕ) × (s ≡ numbered letter a b) × (from ≤ b) × (b < from + n)
numbered_at letter a from zero i s at = cc
numbered_at letter a from (suc n) zero s at = let same : numbered letter a from ≡ s = cc in (from, sym same, omega arith, omega arith)
numbered_at letter a from (suc n) (suc i) s at = let h = numbered_at letter a (from + 1) n i s at in (h.0, h.1, omega (arith, h.2), omega (arith, h.3))

each_at : {X : Type 0} (letter : List ℕ) (labels : X → ℕ) (n : ℕ) (xs : List X) (i : ℕ) (s : List ℕ) → are_few labels xs ≡ true → slice_get (names_each letter labels n xs) i ≡ Some s → IsNumbered letter n (length xs) s
each_at letter labels n [] i s few at = let none : ◌≡◌ {A = Option (List ℕ)} None (Some s) = at in cc
each_at {X} letter labels n (x ∷ xs) i s few at = go (get_split (numbered_to letter n (labels x)) (names_each letter labels (n + 1) xs) i s at) (λ k there. each_at letter labels (n + 1) xs k s both.1 there)
  where
    both : (nat_le (labels x) 20000 ≡ true) × (are_few labels xs ≡ true)
    both = and_parts (nat_le (labels x) 20000) (are_few labels xs) few

    go : (slice_get (numbered_to letter n (labels x)) i ≡ Some s) ⊎ ((k : ℕ) × (slice_get (names_each letter labels (n + 1) xs) k ≡ Some s)) → ((k : ℕ) → slice_get (names_each letter labels (n + 1) xs) k ≡ Some s → IsNumbered letter (n + 1) (length xs) s) → IsNumbered letter n (suc (length xs)) s
    go (inl here) ih =
        let h = numbered_at letter n 1 (labels x) i s here in
        let low = leb-true (labels x) 20000 both.0 in
        record { a = n; b = h.0; is = h.1; least = omega arith; most = omega arith; few = omega (arith, h.3, low) }
    go (inr there) ih = let h = ih there.0 there.1 in record { a = h.a; b = h.b; is = h.is; least = omega (arith, h.least); most = omega (arith, h.most); few = h.few }

-- those of one thing
one_named : (x a from n : ℕ) → is_name_byte x ≡ true → a < 2 ^ 64 → from + n ≤ 20001 → are_names (map (λ b. numbered (x ∷ []) a b) (range_with_len from n)) ≡ true
one_named x a from zero letter al few = refl
one_named x a from (suc n) letter al few =
    let rest = map (λ b. numbered (x ∷ []) a b) (range_with_len (from + 1) n) in
    let free : list_any (bytes_eq (numbered (x ∷ []) a from)) rest ≡ false = none_of (numbered (x ∷ []) a from) rest other in
    and_from (is_name (numbered (x ∷ []) a from)) (is_none (place rest (numbered (x ∷ []) a from)) && are_names rest) (numbered_named x a from letter al (omega arith))
    (and_from (is_none (place rest (numbered (x ∷ []) a from))) (are_names rest) (is_nothing (place rest (numbered (x ∷ []) a from)) (none_from (bytes_eq (numbered (x ∷ []) a from)) rest free)) (one_named x a (from + 1) n letter al (omega arith)))
  where
    other : (j : ℕ) (t : List ℕ) → slice_get (map (λ b. numbered (x ∷ []) a b) (range_with_len (from + 1) n)) j ≡ Some t → numbered (x ∷ []) a from ≡ t → ⊥
    other j t at e =
        let h = numbered_at (x ∷ []) a (from + 1) n j t at in
        let top : 20001 < 2 ^ 64 = lit< tt in
        let same = same_numbers (x ∷ []) a from a h.0 al (omega arith) al (omega (arith, h.3)) (e ∙ h.1) in
        omega (arith, same.1, h.2)

-- those of all
each_named : {X : Type 0} (x : ℕ) (labels : X → ℕ) (n : ℕ) (xs : List X) → is_name_byte x ≡ true → are_few labels xs ≡ true → n + length xs ≤ 2 ^ 64 → are_names (names_each (x ∷ []) labels n xs) ≡ true
each_named x labels n [] letter few small = refl
each_named {X} x labels n (y ∷ ys) letter few small =
    join (numbered_to (x ∷ []) n (labels y)) (names_each (x ∷ []) labels (n + 1) ys)
    (one_named x n 1 (labels y) letter (omega arith) (omega (arith, leb-true (labels y) 20000 both.0)))
    (each_named x labels (n + 1) ys letter both.1 (omega arith)) apart
  where
    both : (nat_le (labels y) 20000 ≡ true) × (are_few labels ys ≡ true)
    both = and_parts (nat_le (labels y) 20000) (are_few labels ys) few

    apart : Cross (numbered_to (x ∷ []) n (labels y)) (names_each (x ∷ []) labels (n + 1) ys)
    apart i j s t a b e =
        let here = numbered_at (x ∷ []) n 1 (labels y) i s a in
        let there = each_at (x ∷ []) labels (n + 1) ys j t both.1 b in
        let low = leb-true (labels y) 20000 both.0 in
        let top : 20001 < 2 ^ 64 = lit< tt in
        let same = same_numbers (x ∷ []) n here.0 there.a there.b (omega arith) (omega (arith, here.3, low)) (omega (arith, there.most)) (omega (arith, there.few)) (sym here.1 ∙ e ∙ there.is) in
        omega (arith, same.0, there.least)

-- few labels in all are few of each
few_each : {X : Type 0} (labels : X → ℕ) (total : List X → ℕ) → ((x : X) (xs : List X) → total (x ∷ xs) ≡ labels x + total xs) → (xs : List X) → total xs ≤ 20000 → are_few labels xs ≡ true
few_each labels total sums [] h = refl
few_each labels total sums (x ∷ xs) h =
    and_from (nat_le (labels x) 20000) (are_few labels xs) (le-leb (labels x) 20000 (omega (arith, sums x xs))) (few_each labels total sums xs (omega (arith, sums x xs)))

-- the new names aren't there
cross_file : (net : Net) (new : List (List ℕ)) → list_any (is_taken net) new ≡ false → Cross net.labels new
cross_file net new free i j s t a b e =
    let gone : is_some (place net.labels t) ≡ false = none_get (is_taken net) new j t free b in
    let none : place net.labels t ≡ None = go (place net.labels t) gone in
    let other : bytes_eq t s ≡ false = none_at (bytes_eq t) net.labels i s none a in
    true≢false (sym ((bytes_eq-Decides t s).1 (sym e)) ∙ other)
  where
    go : (o : Option ℕ) → is_some o ≡ false → o ≡ None
    go None h = refl
    go (Some k) h = cc

-- a path's name isn't a bypass's
letters : (p b : List (List ℕ)) (pl pc bl bc : ℕ) → ((i : ℕ) (s : List ℕ) → slice_get p i ≡ Some s → IsNumbered (codes "p") pl pc s) → ((i : ℕ) (s : List ℕ) → slice_get b i ≡ Some s → IsNumbered (codes "b") bl bc s) → Cross b p
letters p b pl pc bl bc ps bs i j s t a at e =
    let one = bs i s a in
    let two = ps j t at in
    let both : numbered (codes "b") one.a one.b ≡ numbered (codes "p") two.a two.b = sym one.is ∙ e ∙ two.is in
    let heads : ◌≡◌ {A = ℕ} 98 112 = cc (sym (plain (codes "b") one.a one.b) ∙ both ∙ plain (codes "p") two.a two.b) in
    omega (arith, heads)

-- how few labels there are
pub few_new : (net : Net) (plan : Plan) → has_too_many net plan ≡ false → length net.labels + new_labels plan ≤ 20000
few_new net plan h = ltb-false 20000 (length net.labels + new_labels plan) h

-- all names
pub all_named : (net : Net) (plan : Plan) → IsNetwork net → has_taken net plan ≡ false → has_too_many net plan ≡ false → length plan.paths < 2 ^ 64 → length plan.bypasses < 2 ^ 64 → are_names (label_names net plan) ≡ true
all_named net plan k free few paths_small bypasses_small =
    join (m ++ b) ((s ++ p) ++ i)
    (join m b file.front b_named mb)
    (join (s ++ p) i (join s p rest.front p_named (cross_front s i p sip)) rest.back (cross_both s p i rest.cross (cross_sym i p (cross_back s i p sip))))
    (cross_both m b ((s ++ p) ++ i) m_rest b_rest)
  where
    m : List (List ℕ)
    m = names_of Mpls net.classes net.labels

    s : List (List ℕ)
    s = names_of Smpls net.classes net.labels

    i : List (List ℕ)
    i = names_of Ip net.classes net.labels

    b : List (List ℕ)
    b = bypasses_names 1 plan.bypasses

    p : List (List ℕ)
    p = paths_names 1 plan.paths

    sum : length net.labels + new_labels plan ≤ 20000
    sum = few_new net plan few

    whole : m ++ (s ++ i) ≡ net.labels
    whole = sorted net.classes net.labels k.classes k.in_order

    file : Parts m (s ++ i)
    file = parts m (s ++ i) (ap are_names whole ∙ k.labels)

    rest : Parts s i
    rest = parts s i file.back

    p_few : are_few path_labels plan.paths ≡ true
    p_few = few_each path_labels paths_labels (λ x xs. refl) plan.paths (omega (arith, sum))

    b_few : are_few bypass_labels plan.bypasses ≡ true
    b_few = few_each bypass_labels bypasses_labels (λ x xs. refl) plan.bypasses (omega (arith, sum))

    p_named : are_names p ≡ true
    p_named = each_named 112 path_labels 1 plan.paths refl p_few (omega (arith, paths_small))

    b_named : are_names b ≡ true
    b_named = each_named 98 bypass_labels 1 plan.bypasses refl b_few (omega (arith, bypasses_small))

    taken : (list_any (is_taken net) b ≡ false) × (list_any (is_taken net) p ≡ false)
    taken = or_parts (list_any (is_taken net) b) (list_any (is_taken net) p) (sym (list_any-append (is_taken net) b p) ∙ free)

    file_b : Cross (m ++ (s ++ i)) b
    file_b = subst (λ (xs : List (List ℕ)). Cross xs b) (sym whole) (cross_file net b taken.0)

    file_p : Cross (m ++ (s ++ i)) p
    file_p = subst (λ (xs : List (List ℕ)). Cross xs p) (sym whole) (cross_file net p taken.1)

    mb : Cross m b
    mb = cross_front m (s ++ i) b file_b

    sip : Cross (s ++ i) p
    sip = cross_back m (s ++ i) p file_p

    sib : Cross (s ++ i) b
    sib = cross_back m (s ++ i) b file_b

    bp : Cross b p
    bp = letters p b 1 (length plan.paths) 1 (length plan.bypasses) (λ j t at. each_at (codes "p") path_labels 1 plan.paths j t p_few at) (λ j t at. each_at (codes "b") bypass_labels 1 plan.bypasses j t b_few at)

    -- what stands behind, turned round
    m_rest : Cross m ((s ++ p) ++ i)
    m_rest = cross_sym ((s ++ p) ++ i) m (cross_both (s ++ p) i m
        (cross_both s p m (cross_front s i m (cross_sym m (s ++ i) file.cross)) (cross_sym m p (cross_front m (s ++ i) p file_p)))
        (cross_back s i m (cross_sym m (s ++ i) file.cross)))

    b_rest : Cross b ((s ++ p) ++ i)
    b_rest = cross_sym ((s ++ p) ++ i) b (cross_both (s ++ p) i b (cross_both s p b (cross_front s i b sib) (cross_sym b p bp)) (cross_back s i b sib))
