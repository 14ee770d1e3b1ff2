-- Marks of links: one for each link of a network.
use Rattle.std.specs.Prelude.{◌≡◌, ℕ, Bool, true, false, not, nat_lt, if◌then◌else◌, List, [], ◌∷◌, ◌++◌, map, slice_get, slice_set, unwrap_or}
use Rattle.std.specs.List.{filter, list_all, range_with_len}
use Rattle.wi_net.specs.declared.parts.LinkId.{LinkId}
use Rattle.wi_net.specs.Net.{Net, same_risk}
use Rattle.wi_plan.specs.declared.plan.Bypass.{Bypass}
use Rattle.wi_bypass.specs.Bypasses.{AreFound}

-- no mark, for so many links
abbrev pub no_marks : ℕ → List Bool
no_marks n = map (λ i. false) (range_with_len 0 n)

-- links have a mark among so many
abbrev pub have_marks : ℕ → List LinkId → Bool
have_marks n links = list_all (λ e. nat_lt e.0 n) links

-- and so has the link of each bypass
abbrev pub are_within : ℕ → List Bypass → Bool
are_within n bypasses = list_all (λ (b : Bypass). nat_lt b.link.0 n) bypasses

-- a link is marked
abbrev pub is_marked : List Bool → LinkId → Bool
is_marked marks e = unwrap_or (slice_get marks e.0) false

-- the marks with one for a link
abbrev pub marked : List Bool → LinkId → List Bool
marked marks e = slice_set marks e.0 true

-- the links that aren't marked
abbrev pub unmarked : List Bool → List LinkId → List LinkId
unmarked marks links = filter (λ e. not (is_marked marks e)) links

-- the links that aren't marked, each of which is marked once it was met
abbrev pub once_by : List Bool → List LinkId → List LinkId
once_by marks [] = []
once_by marks (e ∷ links) = if is_marked marks e then once_by marks links else e ∷ once_by (marked marks e) links

-- the marks with one for the link of each bypass that passes a test
abbrev pub marked_where : (Bypass → Bool) → List Bool → List Bypass → List Bool
marked_where p marks [] = marks
marked_where p marks (b ∷ bypasses) = marked_where p (if p b then marked marks b.link else marks) bypasses

abbrev pub marked_each : List Bool → List Bypass → List Bool
marked_each marks bypasses = marked_where (λ _. true) marks bypasses

-- no link of a bypass is in the risk group of the link that it is for
abbrev pub is_outside : Net → Bypass → Bool
is_outside net b = list_all (λ f. not (same_risk net b.link f)) b.via

abbrev pub marked_outside : Net → List Bool → List Bypass → List Bool
marked_outside net marks bypasses = marked_where (is_outside net) marks bypasses

-- what is found for links is added behind bypasses
abbrev pub IsAdded : Net → List LinkId → List Bypass → List Bypass → Type 0
IsAdded net links before after = (found : List Bypass) × (after ≡ before ++ found) × AreFound net links found
