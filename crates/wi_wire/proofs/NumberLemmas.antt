-- A value on the wire is read from the one text that it is written as.
use Rattle.std.proofs.Common.{◌≡◌, ◌≢◌, ℕ, ◌+◌, ◌/◌, ◌%◌, ◌^◌, ◌<◌, ◌≤◌, Bool, true, false, not, ◌&&◌, nat_le, nat_lt, nat_eq, if◌then◌else◌, List, [], ◌∷◌, ◌++◌, length, get_or, Option, Some, None, Result, Ok, Err, refl, sym, ap, ◌∙◌, arith, lit<}
use Rattle.std.specs.Prelude.{◌||◌}
use Rattle.std.specs.Bool.{then_some}
use Rattle.std.specs.List.{list_all}
use Rattle.std.specs.Result.{OkIff, result_ok}
use Rattle.std.specs.Fmt.{decimal}
use Rattle.std.specs.Str.Parse.{AllDigits, digits_value}
use Rattle.std.proofs.lemmas.Bool.{and_parts, and_from, leb-true, ltb-true, eq-eqb}
use Rattle.std.proofs.lemmas.Bool.Decides.{nat_tests}
use Rattle.std.proofs.lemmas.Fmt.{decimal_by_steps_wide, decimal_is_IsNumeral_wide, decimal-digits_value}
use Rattle.std.proofs.lemmas.Str.{digit_value_digit}
use Rattle.std.proofs.lemmas.Str.Parse.{IsNumeralModel, tells_digits, numerals_by_value}
use Rattle.wi_base.proofs.Cases.{by_test}
use Rattle.wi_net.proofs.KeptLists.{all_push}
use Rattle.wi_text.specs.Characters.{is_digit, is_number}
use Rattle.wi_wire.specs.Stacks.{is_free}
use Rattle.wi_wire.specs.Values.{value_in}

-- digits, of which the first is 0 only in the number 0
Written : ℕ → List ℕ → Type 0
Written n [] = ⊥
Written n (b ∷ s) = (is_digit b ≡ true) × (list_all is_digit s ≡ true) × (nat_eq b 48 ≡ true → (n ≡ 0) × (s ≡ []))

digit_is : (d : ℕ) → d < 10 → is_digit (48 + d) ≡ true
digit_is d low = grind (arith, nat_tests)

one_digit : (n : ℕ) → n < 10 → Written n ((48 + n) ∷ [])
unfolding Written
one_digit n low = (digit_is n low, refl, λ zero_first. (grind (arith, nat_tests), refl))

more_digits : (n : ℕ) (s : List ℕ) → 10 ≤ n → Written (n / 10) s → Written n (s ++ ((48 + n % 10) ∷ []))
unfolding Written
more_digits n [] high w = absurd w
more_digits n (b ∷ s) high w =
    (w.0, all_push is_digit s (48 + n % 10) w.1 (digit_is (n % 10) (omega arith)), λ zero_first. absurd (let none : n / 10 ≡ 0 = (w.2 zero_first).0 in omega arith))

wide : (n : ℕ) → n < 2 ^ 128 → n < 10 ^ 64
wide n low = let top : 2 ^ 128 < 10 ^ 64 = lit< tt in omega arith

written_number : (n : ℕ) (s : List ℕ) → Written n s → is_number s ≡ true
unfolding Written
written_number n [] w = absurd w
written_number n (b ∷ s) w = and_from (is_digit b) _ w.0 (and_from (list_all is_digit s) _ w.1 (by_test (nat_eq b 48) zero_first other_first))
  where
    zero_first : nat_eq b 48 ≡ true → (not (nat_eq b 48) || nat_lt (length s) 1) ≡ true
    zero_first e = rw (e, (w.2 e).1) refl

    other_first : nat_eq b 48 ≡ false → (not (nat_eq b 48) || nat_lt (length s) 1) ≡ true
    other_first e = rw e refl

-- what is written as a decimal is a number, with that value
decimal_number : (n : ℕ) → n < 2 ^ 128 → is_number (decimal n) ≡ true
decimal_number n low = written_number n (decimal n) (decimal_by_steps_wide Written one_digit more_digits n (wide n low))

decimal_value : (n : ℕ) → n < 2 ^ 128 → digits_value 10 (decimal n) ≡ n
decimal_value n low = (decimal_is_IsNumeral_wide n (wide n low)).1

all_digits : (s : List ℕ) → list_all is_digit s ≡ true → AllDigits 10 s
all_digits [] h = tt
all_digits (b ∷ s) h =
    let parts = and_parts (is_digit b) (list_all is_digit s) h in
    let low : 48 ≤ b = grind (arith, nat_tests, parts.0) in
    let high : b ≤ 57 = grind (arith, nat_tests, parts.0) in
    (omega (arith, digit_value_digit b (low, high)), all_digits s parts.1)

-- a number is the decimal of its value
number_decimal : (text : List ℕ) → is_number text ≡ true → digits_value 10 text < 2 ^ 64 → decimal (digits_value 10 text) ≡ text
number_decimal [] h low = cc
number_decimal (b ∷ s) h low =
    let parts = and_parts (is_digit b) (list_all is_digit s && (not (nat_eq b 48) || nat_lt (length s) 1)) h in
    let rest = and_parts (list_all is_digit s) (not (nat_eq b 48) || nat_lt (length s) 1) parts.1 in
    let own : IsNumeralModel (AllDigits 10) (digits_value 10) = numerals_by_value (AllDigits 10) tells_digits in
    decimal-digits_value own (b ∷ s) (all_digits (b ∷ s) (and_from (is_digit b) (list_all is_digit s) parts.0 rest.0)) (omega arith) (λ zero_first. alone b s zero_first rest.1) low
  where
    alone : (b : ℕ) (s : List ℕ) → get_or (b ∷ s) 0 0 ≡ 48 → (not (nat_eq b 48) || nat_lt (length s) 1) ≡ true → length (b ∷ s) ≡ 1
    alone b s e h =
        let is : nat_eq b 48 ≡ true = eq-eqb b 48 e in
        let short : nat_lt (length s) 1 ≡ true = rw is at h in
        omega (arith, ltb-true (length s) 1 short)

free_most : (n : ℕ) → is_free n ≡ true → n ≤ 1048575
free_most n is = leb-true n 1048575 ((and_parts (nat_le 16 n) (nat_le n 1048575) is).1)

abbrev pub free_value : ℕ → Option ℕ
free_value n = if is_free n then Some n else None

pub value_read : (text : List ℕ) (n : ℕ) → n < 2 ^ 128 → text ≡ decimal n → value_in text ≡ free_value n
value_read text n low e =
    let number : is_number text ≡ true = ap is_number e ∙ decimal_number n low in
    let value : digits_value 10 text ≡ n = ap (digits_value 10) e ∙ decimal_value n low in
    rw (number, value) refl

pub value_unread : (text : List ℕ) → ((n : ℕ) → n < 2 ^ 128 → text ≢ decimal n) → value_in text ≡ None
value_unread text none = by_test (is_number text && is_free (digits_value 10 text)) there missing
  where
    there : (is_number text && is_free (digits_value 10 text)) ≡ true → value_in text ≡ None
    there e =
        let parts = and_parts (is_number text) (is_free (digits_value 10 text)) e in
        let low = free_most (digits_value 10 text) parts.1 in
        absurd (none (digits_value 10 text) (omega (arith, low)) (sym (number_decimal text parts.0 (omega (arith, low)))))

    missing : (is_number text && is_free (digits_value 10 text)) ≡ false → value_in text ≡ None
    missing e = rw e refl

-- what was read fits in 32 bits, and is a value where it is free
small_is : {E : Type 0} (n v : ℕ) (r : Result ℕ E) → OkIff r (n < 2 ^ 32) n → result_ok r ≡ Some v → v ≡ n
small_is n v (Ok x) is e = let same : x ≡ v = cc in sym same ∙ is.1
small_is n v (Err x) is e = cc

pub read_small : {E : Type 0} (text : List ℕ) (n v : ℕ) (small : Result ℕ E) (o r : Option ℕ) (free : Bool) → n < 2 ^ 128 → text ≡ decimal n → OkIff small (n < 2 ^ 32) n → o ≡ result_ok small → o ≡ Some v → free ≡ is_free v → r ≡ then_some free v → r ≡ value_in text
read_small text n v small o r free low e fits kept some test is =
    let same : v ≡ n = small_is n v small fits (sym kept ∙ some) in
    is ∙ rw (test, same) (go (is_free n) refl) ∙ sym (value_read text n low e)
  where
    go : (b : Bool) → is_free n ≡ b → then_some (is_free n) n ≡ free_value n
    go true b = rw b refl
    go false b = rw b refl

-- or it is too large
too_large : {E : Type 0} (n : ℕ) (r : Result ℕ E) → OkIff r (n < 2 ^ 32) n → result_ok r ≡ None → n < 2 ^ 32 → ⊥
too_large n (Ok x) is e = cc
too_large n (Err x) is e = is

pub read_large : {E : Type 0} (text : List ℕ) (n : ℕ) (small : Result ℕ E) (o r : Option ℕ) → n < 2 ^ 128 → text ≡ decimal n → OkIff small (n < 2 ^ 32) n → o ≡ result_ok small → o ≡ None → r ≡ None → r ≡ value_in text
read_large text n small o r low e fits kept none is = is ∙ sym (value_read text n low e ∙ go (is_free n) refl)
  where
    go : (b : Bool) → is_free n ≡ b → free_value n ≡ None
    go true b = absurd (too_large n small fits (sym kept ∙ none) (omega (arith, free_most n b)))
    go false b = rw b refl

-- a value's text is its decimal
pub value_decimal : (text : List ℕ) (v : ℕ) → value_in text ≡ Some v → decimal v ≡ text
value_decimal text v e = by_test (is_number text && is_free (digits_value 10 text)) there missing
  where
    there : (is_number text && is_free (digits_value 10 text)) ≡ true → decimal v ≡ text
    there test =
        let parts = and_parts (is_number text) (is_free (digits_value 10 text)) test in
        let low = free_most (digits_value 10 text) parts.1 in
        let value : Some (digits_value 10 text) ≡ Some v = rw test at e in
        let same : digits_value 10 text ≡ v = cc in
        ap decimal (sym same) ∙ number_decimal text parts.0 (omega (arith, low))

    missing : (is_number text && is_free (digits_value 10 text)) ≡ false → decimal v ≡ text
    missing test = let none : None ≡ Some v = rw test at e in cc
