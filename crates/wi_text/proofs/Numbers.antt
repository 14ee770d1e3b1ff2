-- Numbers that have more than so many bits.
use Rattle.std.proofs.Common.{◌≡◌, ℕ, ◌<◌, ◌≤◌, ◌^◌, true, false, nat_le, nat_lt, List, [], ◌∷◌, Result, Err, length, arith}
use Rattle.std.proofs.lemmas.Bool.{and_parts, leb-true}
use Rattle.std.proofs.lemmas.Bool.Decides.{nat_tests}
use Rattle.std.proofs.lemmas.Result.{OkIff-at_err}
use Rattle.std.proofs.lemmas.Str.Parse.{numerals_by_value, tells_digits, parse_digits}
use Rattle.std.specs.Char.{digit_value}
use Rattle.std.specs.List.{list_all}
use Rattle.std.specs.Result.{OkIff}
use Rattle.std.specs.Str.Parse.{digits_value, AllDigits, ParsesUnsigned}
use Rattle.wi_text.specs.Characters.{is_digit}

all_digits : (s : List ℕ) → list_all is_digit s ≡ true → AllDigits 10 s
all_digits [] all = tt
all_digits (b ∷ s) all =
    let parts = and_parts (is_digit b) (list_all is_digit s) all in
    let range = and_parts (nat_le 48 b) (nat_le b 57) parts.0 in
    (value b (leb-true 48 b range.0) (leb-true b 57 range.1), all_digits s parts.1)
  where
    value : (b : ℕ) → 48 ≤ b → b ≤ 57 → digit_value b < 10
    value b low high =
        let a : nat_lt b 48 ≡ false = grind (arith, nat_tests) in
        let c : nat_lt b 58 ≡ true = grind (arith, nat_tests) in
        rw (a, c) (omega arith)

parsed : {E : Type 0} (bits : ℕ) (s : List ℕ) (r : Result ℕ E) → list_all is_digit s ≡ true → ParsesUnsigned bits 10 s r → OkIff r ((0 < length s) × (digits_value 10 s < 2 ^ bits)) (digits_value 10 s)
parsed bits s r all parses = parse_digits (numerals_by_value (AllDigits 10) tells_digits) bits s r parses (all_digits s all)

-- digits that aren't parsed are a number that is too large
pub too_large : {E : Type 0} (bits : ℕ) (s : List ℕ) (r : Result ℕ E) (x : E) → 0 < length s → list_all is_digit s ≡ true → ParsesUnsigned bits 10 s r → r ≡ Err x → 2 ^ bits ≤ digits_value 10 s
too_large bits s r x some all parses e = large (2 ^ bits) (digits_value 10 s) (λ small. OkIff-at_err r _ _ x (parsed bits s r all parses) e (some, small))
  where
    large : (m n : ℕ) → (n < m → ⊥) → m ≤ n
    large m n over = omega arith
