-- Unions of risk groups, put together from an index.
use Rattle.std.specs.Prelude.{List, [], ◌∷◌}
use Rattle.wi_net.specs.declared.parts.LinkId.{LinkId}
use Rattle.wi_net.specs.LinkSet.{with_link}

-- a set with each link of a list
abbrev pub union : List LinkId → List LinkId → List LinkId
union s [] = s
union s (e ∷ es) = union (with_link s e) es
