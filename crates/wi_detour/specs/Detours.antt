-- Detours of a link: ways around it, no link of which fails with it. They are what a bypass of facility backup (RFC 4090) has to be.
use Rattle.std.specs.Prelude.{◌≡◌, ◌⊎◌, ℕ, ◌+◌, ◌<◌, ◌≤◌, Bool, true, not, ◌&&◌, List, [], ◌∷◌, length, slice_get}
use Rattle.std.specs.List.{list_all}
use Rattle.std.specs.Option.{option_map_or}
use Rattle.wi_net.specs.declared.parts.LinkId.{LinkId}
use Rattle.wi_net.specs.Net.{Net, same_risk}
use Rattle.wi_plan.specs.Plans.{is_bypass_of}

-- links that are a bypass of a link, none of which is in its risk group
abbrev pub is_detour : Net → LinkId → List LinkId → Bool
is_detour net e via = is_bypass_of net (record { link = e; via = via }) && list_all (λ f. not (same_risk net e f)) via

-- a link's distance
abbrev pub distance_of : Net → LinkId → ℕ
distance_of net e = option_map_or (λ l. l.distance) (slice_get net.links e.0) 0

-- the sum of the links' distances
abbrev pub length_of : Net → List LinkId → ℕ
length_of net [] = 0
length_of net (e ∷ via) = distance_of net e + length_of net via

-- some links are no longer than others: by their length, and where that is the same by their number
abbrev pub AreNoLonger : Net → List LinkId → List LinkId → Type 0
AreNoLonger net via other = (length_of net via < length_of net other) ⊎ ((length_of net via ≡ length_of net other) × (length via ≤ length other))

-- a detour of a link that is no longer than any
pub record IsLeastDetour (net : Net) (e : LinkId) (via : List LinkId) : Type 0 where
  pub is : is_detour net e via ≡ true
  pub least : (other : List LinkId) → is_detour net e other ≡ true → AreNoLonger net via other
