-- Decimals, read digit by digit.
use Rattle.std.specs.Prelude.{ℕ, ◌+◌, ◌-◌, ◌*◌, ◌^◌, ◌&&◌, if◌then◌else◌, List, [], ◌∷◌, Option, Some, None, nat_lt, option_and_then}
use Rattle.std.specs.Char.{is_ascii_digit}

-- the number that a digit after the number so far makes: none goes on after 0, and each is below 2 ^ 128
abbrev pub number_after : Option ℕ → ℕ → Option ℕ
number_after None b = if is_ascii_digit b then Some (b - 48) else None
number_after (Some n) b = if is_ascii_digit b && nat_lt 0 n && nat_lt (10 * n + (b - 48)) (2 ^ 128) then Some (10 * n + (b - 48)) else None

-- the number that the bytes make after the number so far
abbrev pub number_in : Option ℕ → List ℕ → Option ℕ
number_in so_far [] = so_far
number_in so_far (b ∷ bs) = option_and_then (λ n. number_in (Some n) bs) (number_after so_far b)
