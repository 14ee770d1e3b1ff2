-- Lines without an end.
use Rattle.std.specs.Prelude.{ℕ, Bool, not, ◌==◌, List}
use Rattle.std.specs.List.{list_all}

-- no byte ends a line
abbrev pub is_free : List ℕ → Bool
is_free line = list_all (λ b. not (b == 10)) line
