-- What stands in a network under a name.
use Rattle.std.specs.Prelude.{ℕ, List, Option, position, option_map, option_and_then}
use Rattle.wi_labels.specs.declared.label.Label.{Label}
use Rattle.wi_net.specs.declared.parts.RouterId.{RouterId}
use Rattle.wi_net.specs.declared.parts.LinkId.{LinkId}
use Rattle.wi_net.specs.Names.{place}
use Rattle.wi_net.specs.Ends.{is_out, is_in}
use Rattle.wi_net.specs.Net.{Net}

-- the router of a name
abbrev pub find_router : Net → List ℕ → Option RouterId
find_router net name = option_map (λ n. record { 0 = n }) (place net.routers name)

-- the label of a name
abbrev pub find_label : Net → List ℕ → Option Label
find_label net name = option_map (λ n. record { 0 = n }) (place net.labels name)

-- the number of the link that leaves a router by an interface, and of the one that reaches it by one
abbrev pub out_place : Net → RouterId → List ℕ → Option ℕ
out_place net r name = option_and_then (λ n. position (is_out r (record { 0 = n })) net.links) (place net.interfaces name)

abbrev pub in_place : Net → RouterId → List ℕ → Option ℕ
in_place net r name = option_and_then (λ n. position (is_in r (record { 0 = n })) net.links) (place net.interfaces name)

-- the link that leaves a router by an interface, and the one that reaches it by one
abbrev pub find_out : Net → RouterId → List ℕ → Option LinkId
find_out net r name = option_map (λ n. record { 0 = n }) (out_place net r name)

abbrev pub find_in : Net → RouterId → List ℕ → Option LinkId
find_in net r name = option_map (λ n. record { 0 = n }) (in_place net r name)
