-- Numbers of groups and members.
use Rattle.std.proofs.Common.{◌≡◌, ℕ, ◌-◌, ◌≤◌, ◌^◌, ◌<◌, min, true, List, [], ◌∷◌, Result, Err, length, arith}
use Rattle.std.specs.Str.Parse.{digits_value, ParsesUnsigned}
use Rattle.wi_text.proofs.Numbers.{too_large}
use Rattle.wi_script.specs.Lines.{is_count}
use Rattle.wi_script.specs.Scripts.{number_of}
use Rattle.wi_script.proofs.Forms.{count_digits}

some_digit : (s : List ℕ) → is_count s ≡ true → 0 < length s
some_digit [] is = cc
some_digit (b ∷ s) is = omega arith

pub past_all : {E : Type 0} (s : List ℕ) (r : Result ℕ E) (x : E) → is_count s ≡ true → ParsesUnsigned 32 10 s r → r ≡ Err x → 2 ^ 32 - 1 ≡ number_of s
past_all s r x is parses e = largest (digits_value 10 s) (too_large 32 s r x (some_digit s is) (count_digits s is) parses e)
  where
    largest : (n : ℕ) → 2 ^ 32 ≤ n → 2 ^ 32 - 1 ≡ min (n - 1) (2 ^ 32 - 1)
    largest n large = omega arith
