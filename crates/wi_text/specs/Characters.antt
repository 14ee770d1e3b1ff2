-- Kinds of characters. All of these are ASCII, so they are told by their bytes.
use Rattle.std.specs.Prelude.{ℕ, Bool, false, ◌&&◌, ◌||◌, ◌==◌, not, nat_le, nat_lt, List, [], ◌∷◌, length}
use Rattle.std.specs.List.{list_all}

-- a space, a tab, a carriage return or a line feed
abbrev pub is_space : ℕ → Bool
is_space b = (b == 32) || ((b == 9) || ((b == 13) || (b == 10)))

abbrev pub is_digit : ℕ → Bool
is_digit b = nat_le 48 b && nat_le b 57

abbrev pub is_letter : ℕ → Bool
is_letter b = (nat_le 65 b && nat_le b 90) || (nat_le 97 b && nat_le b 122)

-- an ASCII letter, a digit or `_`
abbrev pub is_plain : ℕ → Bool
is_plain b = is_digit b || (is_letter b || (b == 95))

-- a text begins with a character of a kind
abbrev pub begins_with : (ℕ → Bool) → List ℕ → Bool
begins_with p [] = false
begins_with p (b ∷ rest) = p b

-- plain characters, and at least one
abbrev pub is_plain_name : List ℕ → Bool
is_plain_name s = nat_lt 0 (length s) && list_all is_plain s

-- neither a control character nor a quotation mark
abbrev pub is_name_byte : ℕ → Bool
is_name_byte b = nat_le 32 b && (not (b == 127) && not (b == 34))

-- a number as it is written: `0`, or a digit 1 to 9 and digits. Its value is what std's `digits_value 10` gives.
abbrev pub is_number : List ℕ → Bool
is_number [] = false
is_number (b ∷ s) = is_digit b && (list_all is_digit s && (not (b == 48) || nat_lt (length s) 1))
