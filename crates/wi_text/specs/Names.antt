-- Names as they are printed.
use Rattle.std.specs.Prelude.{ℕ, List, ◌++◌, codes, if◌then◌else◌}
use Rattle.wi_text.specs.Characters.{is_plain_name}

-- a name between quotation marks
abbrev pub quoted : List ℕ → List ℕ
quoted name = codes "\"" ++ name ++ codes "\""

-- a name, without quotation marks where it is a plain name
abbrev pub shown : List ℕ → List ℕ
shown name = if is_plain_name name then name else quoted name
