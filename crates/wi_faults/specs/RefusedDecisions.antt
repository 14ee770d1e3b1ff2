-- The texts for a query that isn't decided: a weight that doesn't fit in 64 bits, and a run that is too long to be shown.
use Rattle.std.specs.Prelude.{ℕ, ◌+◌, ◌^◌, nat_lt, if◌then◌else◌, List, [], ◌∷◌, ◌++◌, take, codes}
use Rattle.std.specs.Fmt.{decimal}
use Rattle.wi_weight.specs.declared.kinds.Pair.{Pair}
use Rattle.wi_weight.specs.declared.kinds.Terms.{Terms}
use Rattle.wi_weight.specs.declared.kinds.Effort.{Effort}
use Rattle.wi_quantity.specs.Weighing.{components}

-- the components of a weight that are shown: the values of so many terms, and the effort
abbrev pub components_shown : ℕ → Pair Terms Effort → List ℕ
components_shown terms w = take terms (components w) ++ w.second.count ∷ []

-- a component that is too large, with its place
abbrev pub component_shown : ℕ → ℕ → List ℕ
component_shown i n = codes "overflow: component " ++ decimal i ++ codes " is " ++ decimal n ++ codes "\n"

-- the first number with more than 64 bits and its place, where places are counted from here on
abbrev pub overflow_from : ℕ → List ℕ → List ℕ
overflow_from i [] = []
overflow_from i (n ∷ ns) = if nat_lt n (2 ^ 64) then overflow_from (i + 1) ns else component_shown i n

-- the first shown component with more than 64 bits; places are counted from 1
abbrev pub overflow_text : ℕ → Pair Terms Effort → List ℕ
overflow_text terms w = overflow_from 1 (components_shown terms w)

-- the effort of a run that is too long to be shown
abbrev pub too_long_text : ℕ → List ℕ
too_long_text n = codes "too long: effort " ++ decimal n ++ codes ", limit 4096\n"

-- that an exact answer takes more nodes than may be opened
abbrev pub nodes_over_limit_text : ℕ → List ℕ
nodes_over_limit_text limit = codes "exact: over the limit " ++ decimal limit ++ codes " nodes\n"
