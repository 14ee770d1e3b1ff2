-- Numbers on a line.
use Rattle.std.specs.Prelude.{ℕ, List, [], ◌∷◌, ◌++◌, codes}
use Rattle.std.specs.Fmt.{decimal}

-- numbers, each after a space
abbrev pub numbers_shown : List ℕ → List ℕ
numbers_shown [] = []
numbers_shown (n ∷ ns) = codes " " ++ decimal n ++ numbers_shown ns
