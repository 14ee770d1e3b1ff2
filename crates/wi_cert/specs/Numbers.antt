-- Lines of numbers: decimals with one space between.
use Rattle.std.specs.Prelude.{ℕ, ◌+◌, ◌-◌, ◌*◌, ◌^◌, ◌&&◌, ◌==◌, if◌then◌else◌, List, [], ◌∷◌, ◌++◌, Option, Some, None, nat_lt, option_and_then}
use Rattle.std.specs.Char.{is_ascii_digit}
use Rattle.std.specs.Fmt.{decimal}

-- each number after a space
abbrev pub spaced : List ℕ → List ℕ
spaced [] = []
spaced (n ∷ ns) = 32 ∷ (decimal n ++ spaced ns)

-- numbers as they are written
abbrev pub printed : List ℕ → List ℕ
printed [] = []
printed (n ∷ ns) = decimal n ++ spaced ns

-- the number that a digit after the word so far makes: no word begins with 0 but 0, and each is below 2 ^ 64
abbrev pub digit_after : Option ℕ → ℕ → Option ℕ
digit_after None b = if is_ascii_digit b then Some (b - 48) else None
digit_after (Some n) b = if is_ascii_digit b && nat_lt 0 n && nat_lt (10 * n + (b - 48)) (2 ^ 64) then Some (10 * n + (b - 48)) else None

-- the numbers before, and the word so far, after one more byte
abbrev pub scanned : List ℕ → Option ℕ → ℕ → Option (List ℕ × Option ℕ)
scanned before None b = option_and_then (λ n. Some (before, Some n)) (digit_after None b)
scanned before (Some n) b = if b == 32 then Some (before ++ n ∷ [], None) else option_and_then (λ m. Some (before, Some m)) (digit_after (Some n) b)

-- the numbers at the end of the line, where a word stands
abbrev pub scan_end : List ℕ → Option ℕ → Option (List ℕ)
scan_end before None = None
scan_end before (Some n) = Some (before ++ n ∷ [])

-- the numbers of a line, after those before and the word so far
abbrev pub scan : List ℕ → Option ℕ → List ℕ → Option (List ℕ)
scan before word [] = scan_end before word
scan before word (b ∷ bs) = option_and_then (λ s. scan s.0 s.1 bs) (scanned before word b)

-- the numbers that the line spells, if it spells any
abbrev pub numbers_in : List ℕ → Option (List ℕ)
numbers_in line = scan [] None line

-- what follows the front, where the line begins with it
abbrev pub after : List ℕ → List ℕ → Option (List ℕ)
after [] line = Some line
after (c ∷ cs) [] = None
after (c ∷ cs) (b ∷ bs) = if b == c then after cs bs else None

-- the numbers after the front
abbrev pub numbers_after : List ℕ → List ℕ → Option (List ℕ)
numbers_after front line = option_and_then numbers_in (after front line)

abbrev pub one_number : List ℕ → Option ℕ
one_number (n ∷ []) = Some n
one_number ns = None

-- the one number after the front
abbrev pub count_after : List ℕ → List ℕ → Option ℕ
count_after front line = option_and_then one_number (numbers_after front line)

-- the line of a count after its front
abbrev pub count_line : List ℕ → ℕ → List ℕ
count_line front n = front ++ decimal n
