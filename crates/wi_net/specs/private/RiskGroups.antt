-- Risk groups, as they are gathered link by link.
use Rattle.std.specs.Prelude.{List, [], ◌∷◌, map, slice_get, unwrap_or}
use Rattle.wi_net.specs.declared.parts.LinkId.{LinkId}
use Rattle.wi_net.specs.declared.parts.Link.{Link}
use Rattle.wi_net.specs.declared.parts.Member.{Member}
use Rattle.wi_net.specs.LinkSet.{with_link, risk_in}
use Rattle.wi_net.specs.RiskGroups.{union}

-- a set with the least link of each link's risk group
abbrev pub with_risks : List Link → List LinkId → List LinkId → List LinkId
with_risks links s [] = s
with_risks links s (e ∷ es) = with_risks links (with_link s (risk_in links e)) es

-- the same of the links of groups
abbrev pub with_group_risks : List Link → List LinkId → List (List Member) → List LinkId
with_group_risks links s [] = s
with_group_risks links s (g ∷ gs) = with_group_risks links (with_risks links s (map (λ (m : Member). m.link) g)) gs

-- the links that an index has for one
abbrev pub named_by : List (List LinkId) → LinkId → List LinkId
named_by index r = unwrap_or (slice_get index r.0) []

-- a set with what an index has for each link of a list
abbrev pub gathered : List (List LinkId) → List LinkId → List LinkId → List LinkId
gathered index s [] = s
gathered index s (r ∷ rs) = gathered index (union s (named_by index r)) rs
