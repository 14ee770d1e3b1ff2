-- The links on which a packet may set out.
use Rattle.std.specs.Prelude.{ℕ, Bool, true, false, if◌then◌else◌, List, [], ◌∷◌}
use Rattle.wi_net.specs.declared.parts.LinkId.{LinkId}
use Rattle.wi_net.specs.LinkSet.{has}
use Rattle.wi_net.specs.Net.{links_where}
use Rattle.wi_rules.specs.Rules.{Encoding}

-- whether there are states
abbrev pub are_some : List ℕ → Bool
are_some [] = false
are_some (q ∷ qs) = true

-- a link that isn't known to be down, and by which the path goes on
abbrev pub may_set_out : Encoding → LinkId → Bool
may_set_out s e = if has s.bounds.down e then false else are_some (s.path.next 0 e.0)

abbrev pub first_links : Encoding → List LinkId
first_links s = links_where s.net (may_set_out s)
