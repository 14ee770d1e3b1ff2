-- An index from a link to its bypass.
use Rattle.std.specs.Prelude.{◌≡◌, ℕ, ◌+◌, ◌==◌, Bool, nat_lt, is_some, if◌then◌else◌, List, [], ◌∷◌, map, slice_get, slice_set, Option, Some, None, option_map, option_and_then}
use Rattle.std.specs.List.{list_all, range_with_len}
use Rattle.wi_net.specs.declared.parts.LinkId.{LinkId}
use Rattle.wi_plan.specs.declared.plan.Bypass.{Bypass}
use Rattle.wi_protect.specs.declared.detours.Detour.{Detour}
use Rattle.wi_protect.specs.Labels.{bypass_labels}
use Rattle.wi_protect.specs.Rows.{Round, round}

-- bypasses are of links with numbers below one
abbrev pub are_within : ℕ → List Bypass → Bool
are_within n bypasses = list_all (λ (b : Bypass). nat_lt b.link.0 n) bypasses

-- nothing for each of so many links
abbrev pub no_detours : ℕ → List (Option Detour)
no_detours n = map (λ _. None) (range_with_len 0 n)

-- what an index has for a link
abbrev pub at_link : List (Option Detour) → LinkId → Option Detour
at_link index e = option_and_then (λ o. o) (slice_get index e.0)

-- an index with something for a link, unless it has that already
abbrev pub noted : List (Option Detour) → LinkId → Detour → List (Option Detour)
noted index e detour = if is_some (at_link index e) then index else slice_set index e.0 (Some detour)

-- the first bypass of a link, where the first of these has a number, and its labels begin at one
abbrev pub detour_from : ℕ → ℕ → List Bypass → LinkId → Option Detour
detour_from x l [] e = None
detour_from x l (bypass ∷ bypasses) e =
    if bypass.link.0 == e.0 then Some (record { bypass = x; first = l }) else detour_from (x + 1) (l + bypass_labels bypass) bypasses e

-- the way around a link, by an index
abbrev pub round_by : List Bypass → List (Option Detour) → LinkId → Option Round
round_by bypasses index e =
    option_and_then (λ (d : Detour). option_map (λ (b : Bypass). record { via = b.via; first = d.first }) (slice_get bypasses d.bypass)) (at_link index e)

-- the index gives the way around each link, where the first bypass's labels begin at a number
abbrev pub AreDetours : List Bypass → ℕ → List (Option Detour) → Type 0
AreDetours bypasses l index = (e : LinkId) → round_by bypasses index e ≡ round l bypasses e
