-- Names, and where they stand in a list.
use Rattle.std.specs.Prelude.{ℕ, ◌&&◌, Bool, true, nat_le, List, [], ◌∷◌, ◌++◌, length, position, is_some, is_none, if◌then◌else◌, Option}
use Rattle.std.specs.List.{list_all, position_or_len}
use Rattle.std.specs.Str.{bytes_eq}
use Rattle.wi_text.specs.Characters.{is_name_byte}

-- 1 to 32 bytes, none of a control character or a quotation mark
abbrev pub is_name : List ℕ → Bool
is_name s = nat_le 1 (length s) && (nat_le (length s) 32 && list_all is_name_byte s)

-- where a name stands
abbrev pub place : List (List ℕ) → List ℕ → Option ℕ
place names s = position (bytes_eq s) names

-- a name's number in a list that it is added to, unless it is there
abbrev pub number_of : List (List ℕ) → List ℕ → ℕ
number_of names s = position_or_len (bytes_eq s) names

-- a list with a name last, unless it is there
abbrev pub with_name : List (List ℕ) → List ℕ → List (List ℕ)
with_name names s = if is_some (place names s) then names else names ++ s ∷ []

-- names, no two of them the same
abbrev pub are_names : List (List ℕ) → Bool
are_names [] = true
are_names (s ∷ names) = is_name s && (is_none (place names s) && are_names names)
