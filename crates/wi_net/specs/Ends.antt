-- The two ends of a link.
use Rattle.std.specs.Prelude.{◌&&◌, ◌==◌, Bool, true, List, [], ◌∷◌, position, is_none}
use Rattle.wi_net.specs.declared.parts.Link.{Link}
use Rattle.wi_net.specs.declared.parts.RouterId.{RouterId}
use Rattle.wi_net.specs.declared.parts.NameId.{NameId}

-- a link leaves the router by the interface
abbrev pub is_out : RouterId → NameId → Link → Bool
is_out r n l = (r.0 == l.from.0) && (n.0 == l.out_if.0)

-- it reaches the router by the interface
abbrev pub is_in : RouterId → NameId → Link → Bool
is_in r n l = (r.0 == l.to.0) && (n.0 == l.in_if.0)

-- no two links leave one router by one interface, and no two reach one router by one
abbrev pub are_ends_apart : List Link → Bool
are_ends_apart [] = true
are_ends_apart (l ∷ links) = is_none (position (is_out l.from l.out_if) links) && (is_none (position (is_in l.to l.in_if) links) && are_ends_apart links)
