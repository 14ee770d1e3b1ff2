-- What the terms of a text mean, and their first fault.
use Rattle.std.proofs.Common.{◌≡◌, ℕ, suc, ◌+◌, ◌<◌, ◌≤◌, ◌^◌, Bool, true, false, ◌&&◌, ◌||◌, not, cond, nat_eq, nat_le, nat_lt, List, [], ◌∷◌, Option, Some, None, Result, Ok, Err, length, map, filter_map, drop, get_or, refl, arith, ap, sym, ◌∙◌, is_none, add-one, drop-cons}
use Rattle.std.proofs.lemmas.Bool.{leb-true, and_parts, and_from}
use Rattle.std.proofs.lemmas.Bool.Decides.{nat_tests}
use Rattle.std.proofs.lemmas.List.Folds.{find-append}
use Rattle.std.proofs.lemmas.Str.Parse.{numerals_by_value, tells_digits, parse_digits}
use Rattle.std.specs.Char.{digit_value}
use Rattle.std.specs.List.{find, flat_map, list_all, cons_option}
use Rattle.std.specs.Option.{option_map, option_map_or, option_or}
use Rattle.std.specs.Result.{result_ok, OkIff}
use Rattle.std.specs.Str.Parse.{digits_value, AllDigits, ParsesUnsigned}
use Rattle.wi_text.specs.Characters.{is_digit, is_number}
use Rattle.wi_world.specs.declared.run.Quantity.{Quantity}
use Rattle.wi_quantity.specs.declared.vector.Part.{Part}
use Rattle.wi_quantity.specs.Vectors.{is_part, is_term, is_vector}
use Rattle.wi_quantity.specs.Written.{WrittenPart}
use Rattle.wi_quantity.specs.Faults.{quantity_named, part_meant}
use Rattle.wi_quantity.specs.private.Meaning.{unknown_in, unknown_among, many_among, is_large, large_in, large_among, AreMeant, small_meant}

-- numbers
all_digits : (s : List ℕ) → list_all is_digit s ≡ true → AllDigits 10 s
all_digits [] all = tt
all_digits (b ∷ s) all =
    let parts = and_parts (is_digit b) (list_all is_digit s) all in
    let range = and_parts (nat_le 48 b) (nat_le b 57) parts.0 in
    let low = leb-true 48 b range.0 in
    let high = leb-true b 57 range.1 in
    (value b low high, all_digits s parts.1)
  where
    value : (b : ℕ) → 48 ≤ b → b ≤ 57 → digit_value b < 10
    value b low high =
        let a : nat_lt b 48 ≡ false = grind (arith, nat_tests) in
        let c : nat_lt b 58 ≡ true = grind (arith, nat_tests) in
        rw (a, c) (omega arith)

number_digits : (s : List ℕ) → is_number s ≡ true → (list_all is_digit s ≡ true) × (0 < length s)
number_digits [] is = cc
number_digits (b ∷ s) is =
    let outer = and_parts (is_digit b) (list_all is_digit s && (not (nat_eq b 48) || nat_lt (length s) 1)) is in
    let inner = and_parts (list_all is_digit s) (not (nat_eq b 48) || nat_lt (length s) 1) outer.1 in
    (and_from (is_digit b) (list_all is_digit s) outer.0 inner.0, omega arith)

pub value_is : {E : Type 0} (s : List ℕ) (r : Result ℕ E) (o : Option ℕ) → is_number s ≡ true → ParsesUnsigned 16 10 s r → o ≡ result_ok r → o ≡ cond (nat_lt 65535 (digits_value 10 s)) None (Some (digits_value 10 s))
value_is s r o is parses e =
    let digits = number_digits s is in
    by r (parse_digits (numerals_by_value (AllDigits 10) tells_digits) 16 s r parses (all_digits s digits.0)) digits.1 e
  where
    by : {E : Type 0} (r : Result ℕ E) → OkIff r ((0 < length s) × (digits_value 10 s < 2 ^ 16)) (digits_value 10 s) → 0 < length s → o ≡ result_ok r → o ≡ cond (nat_lt 65535 (digits_value 10 s)) None (Some (digits_value 10 s))
    by (Ok n) (h, v) some e =
        let small : nat_lt 65535 (digits_value 10 s) ≡ false = (let top = h.1 in grind (arith, nat_tests, top)) in
        rw small (e ∙ ap Some v)
    by (Err x) h some e = go (nat_lt 65535 (digits_value 10 s)) refl
      where
        go : (t : Bool) → nat_lt 65535 (digits_value 10 s) ≡ t → o ≡ cond t None (Some (digits_value 10 s))
        go true et = e
        go false et = absurd (h (some, grind (arith, nat_tests)))

-- the terms from one on
next_term : (terms : List (List WrittenPart)) (i : ℕ) (h t : List WrittenPart) → i < length terms → h ≡ get_or terms i h → t ≡ h → drop i terms ≡ t ∷ drop (i + 1) terms
next_term terms i h t lt is e = rw add-one (drop-cons terms i h lt ∙ ap (λ x. x ∷ drop (suc i) terms) (sym is ∙ sym e))

or_some : {X : Type 0} (x : X) (a b : Option X) → Some x ≡ a → Some x ≡ option_or a b
or_some x None b e = cc
or_some x (Some y) b e = e

or_none : {X : Type 0} (a b : Option X) → None ≡ a → option_or a b ≡ b
or_none None b e = refl
or_none (Some y) b e = cc

map_or : {X Y : Type 0} (f : X → Y) (a b : Option X) → option_map f (option_or a b) ≡ option_or (option_map f a) (option_map f b)
map_or f None b = refl
map_or f (Some x) b = refl

unknown_parts : (t : List WrittenPart) (ts : List (List WrittenPart)) → unknown_among (t ∷ ts) ≡ option_or (unknown_in t) (unknown_among ts)
unknown_parts t ts = find-append (λ word. is_none (quantity_named word.1)) (map (λ (part : WrittenPart). part.word) t) (flat_map (λ parts. map (λ (part : WrittenPart). part.word) parts) ts)

large_parts : (t : List WrittenPart) (ts : List (List WrittenPart)) → large_among (t ∷ ts) ≡ option_or (large_in t) (large_among ts)
large_parts t ts =
    ap (option_map (λ n. n.0)) (find-append is_large (filter_map (λ (part : WrittenPart). part.number) t) (flat_map (λ parts. filter_map (λ (part : WrittenPart). part.number) parts) ts))
    ∙ map_or (λ (n : ℕ × List ℕ). n.0) (find is_large (filter_map (λ (part : WrittenPart). part.number) t)) (find is_large (flat_map (λ parts. filter_map (λ (part : WrittenPart). part.number) parts) ts))

pub unknown_found : (terms : List (List WrittenPart)) (i : ℕ) (h t : List WrittenPart) (x : ℕ × List ℕ) → i < length terms → h ≡ get_or terms i h → t ≡ h → unknown_among (drop i terms) ≡ unknown_among terms → Some x ≡ unknown_in t → Some x ≡ unknown_among terms
unknown_found terms i h t x lt is e so_far found =
    or_some x (unknown_in t) (unknown_among (drop (i + 1) terms)) found ∙ sym (unknown_parts t (drop (i + 1) terms)) ∙ ap unknown_among (sym (next_term terms i h t lt is e)) ∙ so_far

pub unknown_passed : (terms : List (List WrittenPart)) (i : ℕ) (h t : List WrittenPart) → i < length terms → h ≡ get_or terms i h → t ≡ h → unknown_among (drop i terms) ≡ unknown_among terms → None ≡ unknown_in t → unknown_among (drop (i + 1) terms) ≡ unknown_among terms
unknown_passed terms i h t lt is e so_far none =
    sym (or_none (unknown_in t) (unknown_among (drop (i + 1) terms)) none) ∙ sym (unknown_parts t (drop (i + 1) terms)) ∙ ap unknown_among (sym (next_term terms i h t lt is e)) ∙ so_far

pub large_found : (terms : List (List WrittenPart)) (i : ℕ) (h t : List WrittenPart) (x : ℕ) → i < length terms → h ≡ get_or terms i h → t ≡ h → large_among (drop i terms) ≡ large_among terms → Some x ≡ large_in t → Some x ≡ large_among terms
large_found terms i h t x lt is e so_far found =
    or_some x (large_in t) (large_among (drop (i + 1) terms)) found ∙ sym (large_parts t (drop (i + 1) terms)) ∙ ap large_among (sym (next_term terms i h t lt is e)) ∙ so_far

pub large_passed : (terms : List (List WrittenPart)) (i : ℕ) (h t : List WrittenPart) → i < length terms → h ≡ get_or terms i h → t ≡ h → large_among (drop i terms) ≡ large_among terms → None ≡ large_in t → large_among (drop (i + 1) terms) ≡ large_among terms
large_passed terms i h t lt is e so_far none =
    sym (or_none (large_in t) (large_among (drop (i + 1) terms)) none) ∙ sym (large_parts t (drop (i + 1) terms)) ∙ ap large_among (sym (next_term terms i h t lt is e)) ∙ so_far

-- nothing among terms is nothing in the first, and among the others
or_parts : {X : Type 0} (a b : Option X) → option_or a b ≡ None → (a ≡ None) × (b ≡ None)
or_parts None b e = (refl, e)
or_parts (Some x) b e = cc

-- parts whose words are quantities and whose numbers aren't too large mean as many parts
parts_meant : (parts : List WrittenPart) → unknown_in parts ≡ None → large_in parts ≡ None → map part_meant parts ≡ map Some (filter_map small_meant parts)
parts_meant [] known small = refl
parts_meant (part ∷ parts) known small = by (quantity_named part.word.1) refl part.number refl known small (λ k s. parts_meant parts k s)
  where
    by : (q : Option Quantity) → quantity_named part.word.1 ≡ q → (n : Option (ℕ × List ℕ)) → part.number ≡ n
        → cond (is_none q) (Some part.word) (unknown_in parts) ≡ None
        → option_map (λ (m : ℕ × List ℕ). m.0) (find is_large (cons_option n (filter_map (λ (p : WrittenPart). p.number) parts))) ≡ None
        → (unknown_in parts ≡ None → large_in parts ≡ None → map part_meant parts ≡ map Some (filter_map small_meant parts)) → map part_meant (part ∷ parts) ≡ map Some (filter_map small_meant (part ∷ parts))
    by None eq n en known small rest = cc
    by (Some q) eq None en known small rest = rw (eq, en) (ap (λ t. Some (record { coefficient = 1; quantity = q }) ∷ t) (rest known small))
    by (Some q) eq (Some m) en known small rest = large (is_large m) refl small
      where
        large : (t : Bool) → is_large m ≡ t → option_map (λ (k : ℕ × List ℕ). k.0) (cond t (Some m) (find is_large (filter_map (λ (p : WrittenPart). p.number) parts))) ≡ None → map part_meant (part ∷ parts) ≡ map Some (filter_map small_meant (part ∷ parts))
        large true et s = cc
        large false et s = rw (eq, en, et) (ap (λ t. Some (record { coefficient = digits_value 10 m.1; quantity = q }) ∷ t) (rest known s))

pub terms_meant : (terms : List (List WrittenPart)) → unknown_among terms ≡ None → large_among terms ≡ None → map (map part_meant) terms ≡ map (map Some) (map (filter_map small_meant) terms)
terms_meant [] known small = refl
terms_meant (t ∷ ts) known small =
    let k = or_parts (unknown_in t) (unknown_among ts) (sym (unknown_parts t ts) ∙ known) in
    let s = or_parts (large_in t) (large_among ts) (sym (large_parts t ts) ∙ small) in
    rw (parts_meant t k.0 s.0, terms_meant ts k.1 s.1) refl

-- a part that is meant has a coefficient of at most 16 bits
small_part : (part : WrittenPart) (p : Part) → small_meant part ≡ Some p → is_part p ≡ true
small_part part p e = by (quantity_named part.word.1) refl part.number refl e
  where
    by : (q : Option Quantity) → quantity_named part.word.1 ≡ q → (n : Option (ℕ × List ℕ)) → part.number ≡ n
        → cond (option_map_or is_large n false) None (option_map (λ q. record { coefficient = option_map_or (λ n. digits_value 10 n.1) n 1; quantity = q }) q) ≡ Some p → is_part p ≡ true
    by None eq None en e = cc
    by None eq (Some m) en e = none (is_large m) e
      where
        none : (t : Bool) → cond {A = Option Part} t None None ≡ Some p → is_part p ≡ true
        none true e = cc
        none false e = cc
    by (Some q) eq None en e = let is : record { coefficient = 1; quantity = q } ≡ p = cc in rw (← is) refl
    by (Some q) eq (Some m) en e = some (is_large m) refl e
      where
        some : (t : Bool) → is_large m ≡ t → cond t None (Some (record { coefficient = digits_value 10 m.1; quantity = q })) ≡ Some p → is_part p ≡ true
        some true et e = cc
        some false et e =
            let is : record { coefficient = digits_value 10 m.1; quantity = q } ≡ p = cc in
            rw (← is) (grind (arith, nat_tests))

small_parts : (parts : List WrittenPart) → (list_all is_part (filter_map small_meant parts) ≡ true) × (length (filter_map small_meant parts) ≤ length parts)
small_parts [] = (refl, omega arith)
small_parts (part ∷ parts) = by (small_meant part) refl (small_parts parts)
  where
    by : (o : Option Part) → small_meant part ≡ o → (list_all is_part (filter_map small_meant parts) ≡ true) × (length (filter_map small_meant parts) ≤ length parts)
        → (list_all is_part (cons_option o (filter_map small_meant parts)) ≡ true) × (length (cons_option o (filter_map small_meant parts)) ≤ length (part ∷ parts))
    by None e ih = (ih.0, (let l = ih.1 in omega (arith, l)))
    by (Some p) e ih = (and_from (is_part p) (list_all is_part (filter_map small_meant parts)) (small_part part p e) ih.0, (let l = ih.1 in omega (arith, l)))

short : (terms : List (List WrittenPart)) → find (λ parts. nat_lt 5 (length parts)) terms ≡ None → list_all is_term (map (filter_map small_meant) terms) ≡ true
short [] none = refl
short (t ∷ ts) none = by (nat_lt 5 (length t)) refl none (short ts)
  where
    by : (b : Bool) → nat_lt 5 (length t) ≡ b → cond b (Some t) (find (λ parts. nat_lt 5 (length parts)) ts) ≡ None → (find (λ parts. nat_lt 5 (length parts)) ts ≡ None → list_all is_term (map (filter_map small_meant) ts) ≡ true)
        → list_all is_term (map (filter_map small_meant) (t ∷ ts)) ≡ true
    by true e n rest = cc
    by false e n rest =
        let small = small_parts t in
        let most = small.1 in
        let few : nat_le (length (filter_map small_meant t)) 5 ≡ true = grind (arith, nat_tests, most) in
        and_from (is_term (filter_map small_meant t)) (list_all is_term (map (filter_map small_meant) ts))
        (and_from (nat_le (length (filter_map small_meant t)) 5) (list_all is_part (filter_map small_meant t)) few small.0) (rest n)

length_map : {X Y : Type 0} (f : X → Y) (xs : List X) → length (map f xs) ≡ length xs
length_map f [] = refl
length_map f (x ∷ xs) = ap suc (length_map f xs)

pub vector_fits : (terms : List (List WrittenPart)) (vector : List (List Part)) → None ≡ many_among terms → vector ≡ map (filter_map small_meant) terms → is_vector vector ≡ true
vector_fits terms vector few is = rw is (by (nat_lt 5 (length terms)) refl few)
  where
    none : (o : Option (List WrittenPart)) → None ≡ option_map (λ parts. length parts) o → o ≡ None
    none None e = refl
    none (Some t) e = cc

    by : (b : Bool) → nat_lt 5 (length terms) ≡ b → None ≡ cond b (Some (length terms)) (option_map (λ parts. length parts) (find (λ parts. nat_lt 5 (length parts)) terms)) → is_vector (map (filter_map small_meant) terms) ≡ true
    by true e f = cc
    by false e f =
        let same = length_map (filter_map small_meant) terms in
        let fits : nat_le (length (map (filter_map small_meant) terms)) 5 ≡ true = grind (arith, nat_tests, same) in
        and_from (nat_le (length (map (filter_map small_meant) terms)) 5) (list_all is_term (map (filter_map small_meant) terms)) fits (short terms (none (find (λ parts. nat_lt 5 (length parts)) terms) f))

pub are_meant : (terms : List (List WrittenPart)) (vector : List (List Part)) → None ≡ unknown_among terms → None ≡ many_among terms → None ≡ large_among terms → vector ≡ map (filter_map small_meant) terms → AreMeant terms vector
are_meant terms vector known few small is = record {
  known = sym known;
  few = sym few;
  small = sym small;
  meant = terms_meant terms (sym known) (sym small) ∙ ap (map (map Some)) (sym is);
}
