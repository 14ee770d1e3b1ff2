-- Weight vectors: terms, each a sum of parts.
use Rattle.std.specs.Prelude.{Bool, ◌&&◌, nat_le, List, length}
use Rattle.std.specs.List.{list_all}
use Rattle.wi_quantity.specs.declared.vector.Part.{Part}

-- a part's coefficient has at most 16 bits
abbrev pub is_part : Part → Bool
is_part part = nat_le part.coefficient 65535

-- at most five parts
abbrev pub is_term : List Part → Bool
is_term term = nat_le (length term) 5 && list_all is_part term

-- at most five terms
abbrev pub is_vector : List (List Part) → Bool
is_vector terms = nat_le (length terms) 5 && list_all is_term terms
