-- Places in sets of links.
use Rattle.std.specs.Prelude.{ℕ, ◌==◌, nat_lt, List}
use Rattle.std.specs.List.{prefix_len}
use Rattle.wi_net.specs.declared.parts.LinkId.{LinkId}
use Rattle.wi_net.specs.declared.parts.Link.{Link}
use Rattle.wi_net.specs.LinkSet.{numbers_where, risk_in}

-- how many links of a rising list stand before a link's place
abbrev pub place_in : List LinkId → LinkId → ℕ
place_in s e = prefix_len (λ x. nat_lt x.0 e.0) s

-- the links whose risk group has a link that passes a test
abbrev pub sharing : List Link → LinkId → List LinkId
sharing links r = numbers_where links (λ e. (risk_in links e).0 == r.0)
