-- Numbers that have more than 64 bits.
use Rattle.std.proofs.Common.{◌≡◌, ℕ, ◌<◌, ◌≤◌, ◌^◌, true, not, nat_lt, nat_eq, ◌&&◌, ◌||◌, List, [], ◌∷◌, None, Result, Ok, Err, length, refl, arith}
use Rattle.std.proofs.lemmas.Bool.{and_parts}
use Rattle.std.specs.List.{list_all}
use Rattle.std.specs.Result.{result_ok}
use Rattle.std.specs.Str.Parse.{digits_value, ParsesUnsigned}
use Rattle.wi_text.specs.Characters.{is_digit, is_number}
use Rattle.wi_text.proofs.Numbers.{too_large}

number_digits : (s : List ℕ) → is_number s ≡ true → (0 < length s) × (list_all is_digit s ≡ true)
number_digits [] is = cc
number_digits (b ∷ s) is =
    let first = and_parts (is_digit b) (list_all is_digit s && (not (nat_eq b 48) || nat_lt (length s) 1)) is in
    let rest = and_parts (list_all is_digit s) (not (nat_eq b 48) || nat_lt (length s) 1) first.1 in
    (omega arith, rw first.0 rest.0)

pub not_parsed : {E : Type 0} (s : List ℕ) (r : Result ℕ E) → is_number s ≡ true → ParsesUnsigned 64 10 s r → result_ok r ≡ None → 2 ^ 64 ≤ digits_value 10 s
not_parsed s (Ok n) is parses none = cc
not_parsed s (Err x) is parses none =
    let digits = number_digits s is in
    too_large 64 s (Err x) x digits.0 digits.1 parses refl
