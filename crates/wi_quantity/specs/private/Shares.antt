-- What a link, a hop or an end adds to each quantity, and how risk groups are counted member by member.
use Rattle.std.specs.Prelude.{ℕ, Bool, not, ◌&&◌, ◌||◌, ◌==◌, List}
use Rattle.std.specs.List.{list_any}
use Rattle.wi_net.specs.declared.parts.LinkId.{LinkId}
use Rattle.wi_net.specs.declared.parts.Member.{Member}
use Rattle.wi_net.specs.Net.{Net, is_link, links_where, risk_of, risk_count, same_risk}
use Rattle.wi_world.specs.declared.run.Quantity.{Quantity}
use Rattle.wi_world.specs.declared.run.Quantity.TheVariants.{Links, Hops, Distance, Failures, Tunnels}
use Rattle.wi_quantity.specs.declared.share.Shares.{Shares}

-- what is added to a quantity
abbrev pub share_of : Shares → Quantity → ℕ
share_of shares Links = shares.links
share_of shares Hops = shares.hops
share_of shares Distance = shares.distance
share_of shares Failures = shares.failures
share_of shares Tunnels = shares.tunnels

-- a member's link is of a risk group
abbrev pub has_risk : Net → List Member → LinkId → Bool
has_risk net members risk = list_any (λ m. (risk_of net m.link).0 == risk.0) members

-- a link is the network's, and no member before it is of its risk group
abbrev pub is_new : Net → List (List Member) → List Member → LinkId → Bool
is_new net groups members e =
    is_link net e && (not (has_risk net members (risk_of net e)) && not (list_any (λ g. has_risk net g (risk_of net e)) groups))

-- a link is of the risk group of a member's link
abbrev pub is_reached : Net → List (List Member) → List Member → LinkId → Bool
is_reached net groups members e =
    list_any (λ g. list_any (λ m. same_risk net m.link e) g) groups || list_any (λ m. same_risk net m.link e) members

-- how many risk groups have links of these groups' members, or of these members
abbrev pub risks_of : Net → List (List Member) → List Member → ℕ
risks_of net groups members = risk_count net (links_where net (is_reached net groups members))
