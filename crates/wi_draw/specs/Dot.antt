-- Text of the DOT language ("DOT Language", in Graphviz's documentation).
use Rattle.std.specs.Prelude.{ℕ, ◌-◌, ◌||◌, ◌==◌, if◌then◌else◌, List, [], ◌∷◌, ◌++◌, length, take, codes}
use Rattle.std.specs.List.{flat_map}

-- a byte within a string: a quotation mark and a backslash have a backslash before them, and `&` is a character reference, since
-- Graphviz reads these
abbrev pub escaped_byte : ℕ → List ℕ
escaped_byte b = if b == 38 then codes "&amp;" else if (b == 34) || (b == 92) then 92 ∷ b ∷ [] else b ∷ []

abbrev pub escaped : List ℕ → List ℕ
escaped = flat_map escaped_byte

-- a string
abbrev pub string_of : List ℕ → List ℕ
string_of text = codes "\"" ++ escaped text ++ codes "\""

-- a line feed within lines that become one
abbrev pub joined_byte : ℕ → List ℕ
joined_byte b = if b == 10 then codes ", " else b ∷ []

-- lines, each ended by a line feed, as one line with a comma and a space between them
abbrev pub one_line : List ℕ → List ℕ
one_line lines = flat_map joined_byte (take (length lines - 1) lines)
