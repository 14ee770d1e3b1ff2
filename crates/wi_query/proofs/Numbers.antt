-- Numbers as they are written.
use Rattle.std.proofs.Common.{◌≡◌, ◌≢◌, ℕ, ◌^◌, ◌<◌, ◌≤◌, true, false, not, ◌&&◌, nat_lt, nat_eq, List, [], ◌∷◌, length, get_or, sym, ap, ◌∙◌, arith, lit<}
use Rattle.std.specs.Prelude.{◌||◌}
use Rattle.std.specs.List.{list_all}
use Rattle.std.specs.Fmt.{decimal}
use Rattle.std.specs.Str.Parse.{AllDigits, digits_value}
use Rattle.std.proofs.lemmas.Bool.{and_parts, and_from, lt-ltb, le-ltb, ltb-true, ltb-false, eq-eqb}
use Rattle.std.proofs.lemmas.Bool.Decides.{nat_tests}
use Rattle.std.proofs.lemmas.Fmt.{decimal_is_IsNumeral_wide, decimal-digits_value}
use Rattle.std.proofs.lemmas.Str.{digit_value_digit}
use Rattle.std.proofs.lemmas.Str.Parse.{IsNumeralModel, tells_digits, numerals_by_value}
use Rattle.wi_text.specs.Characters.{is_digit, is_number}
use Rattle.wi_base.proofs.Cases.{by_test}

-- a decimal's value
pub value_is : (text : List ℕ) (n : ℕ) → n < 2 ^ 128 → text ≡ decimal n → n ≡ digits_value 10 text
value_is text n low e =
    let top : 2 ^ 128 < 10 ^ 64 = lit< tt in
    sym (decimal_is_IsNumeral_wide n (omega arith)).1 ∙ ap (digits_value 10) (sym e)

all_digits : (s : List ℕ) → list_all is_digit s ≡ true → AllDigits 10 s
all_digits [] h = tt
all_digits (b ∷ s) h =
    let parts = and_parts (is_digit b) (list_all is_digit s) h in
    let low : 48 ≤ b = grind (arith, nat_tests, parts.0) in
    let high : b ≤ 57 = grind (arith, nat_tests, parts.0) in
    (omega (arith, digit_value_digit b (low, high)), all_digits s parts.1)

-- a number as it is written is the decimal of its value
pub decimal_is : (text : List ℕ) → is_number text ≡ true → digits_value 10 text < 2 ^ 64 → text ≡ decimal (digits_value 10 text)
decimal_is [] h low = cc
decimal_is (b ∷ s) h low =
    let parts = and_parts (is_digit b) (list_all is_digit s && (not (nat_eq b 48) || nat_lt (length s) 1)) h in
    let rest = and_parts (list_all is_digit s) (not (nat_eq b 48) || nat_lt (length s) 1) parts.1 in
    let own : IsNumeralModel (AllDigits 10) (digits_value 10) = numerals_by_value (AllDigits 10) tells_digits in
    sym (decimal-digits_value own (b ∷ s) (all_digits (b ∷ s) (and_from (is_digit b) (list_all is_digit s) parts.0 rest.0)) (omega arith) (λ zero_first. one_digit b s zero_first rest.1) low)
  where
    one_digit : (b : ℕ) (s : List ℕ) → get_or (b ∷ s) 0 0 ≡ 48 → (not (nat_eq b 48) || nat_lt (length s) 1) ≡ true → length (b ∷ s) ≡ 1
    one_digit b s e h = let is : nat_eq b 48 ≡ true = eq-eqb b 48 e in let short : nat_lt (length s) 1 ≡ true = rw is at h in omega (arith, ltb-true (length s) 1 short)

-- a number that is the decimal of none up to the limit is over it
pub over : (text : List ℕ) → is_number text ≡ true → ((n : ℕ) → n ≤ 65535 → text ≡ decimal n → ⊥) → nat_lt 65535 (digits_value 10 text) ≡ true
over text form none = by_test (nat_lt 65535 (digits_value 10 text)) (λ (e : nat_lt 65535 (digits_value 10 text) ≡ true). e)
    (λ (e : nat_lt 65535 (digits_value 10 text) ≡ false).
    let low : digits_value 10 text ≤ 65535 = ltb-false 65535 (digits_value 10 text) e in
    absurd (none (digits_value 10 text) low (decimal_is text form (omega arith))))

pub few_enough : (text : List ℕ) (k : ℕ) → k ≡ digits_value 10 text → k ≤ 65535 → nat_lt 65535 (digits_value 10 text) ≡ false
few_enough text k e low = rw (sym e) (le-ltb 65535 k low)

pub over_limit : (text shown : List ℕ) (n : ℕ) → shown ≡ text → n < 2 ^ 128 → shown ≡ decimal n → 65535 < n → nat_lt 65535 (digits_value 10 text) ≡ true
over_limit text shown n same fits e high = let v = value_is text n fits (sym same ∙ e) in lt-ltb 65535 (digits_value 10 text) (omega arith)

pub over_none : (text shown : List ℕ) → is_number text ≡ true → shown ≡ text → ((n : ℕ) → n < 2 ^ 128 → shown ≢ decimal n) → nat_lt 65535 (digits_value 10 text) ≡ true
over_none text shown form same none = over text form (λ n low e. none n (omega arith) (same ∙ e))
