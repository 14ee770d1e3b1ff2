-- Which links of a plan's paths want a bypass (facility backup, RFC 4090, 3.2), which bypasses are found for them, and which links are
-- without protection then.
use Rattle.std.specs.Prelude.{◌≡◌, ℕ, ◌==◌, ◌&&◌, Bool, true, false, not, List, [], ◌∷◌, ◌++◌, Option, Some, None, slice_get}
use Rattle.std.specs.List.{filter, flat_map, list_any}
use Rattle.std.specs.Option.{option_to_list}
use Rattle.wi_net.specs.declared.parts.LinkId.{LinkId}
use Rattle.wi_net.specs.LinkSet.{has, without}
use Rattle.wi_net.specs.Net.{Net, widened}
use Rattle.wi_plan.specs.declared.plan.Path.{Path}
use Rattle.wi_plan.specs.declared.plan.Bypass.{Bypass}
use Rattle.wi_plan.specs.declared.plan.Plan.{Plan}
use Rattle.wi_plan.specs.Plans.{first_of, last_of}
use Rattle.wi_protect.specs.OneWay.{inner, rerouted}
use Rattle.wi_protect.specs.Protection.{GoesAlong}
use Rattle.wi_detour.specs.Detours.{is_detour, IsLeastDetour}

-- each link once, at its first place
abbrev pub each_once : List LinkId → List LinkId
each_once [] = []
each_once (e ∷ links) = e ∷ without (each_once links) e

-- the inner links of paths, which are all but the first and the last of each: in order, each link once
abbrev pub inner_links : List Path → List LinkId
inner_links paths = each_once (flat_map (λ (path : Path). inner path.links) paths)

-- no bypass is for a link
abbrev pub is_without : List Bypass → LinkId → Bool
is_without bypasses e = not (list_any (λ (b : Bypass). b.link.0 == e.0) bypasses)

-- the inner links of a plan's paths for which the plan has no bypass
abbrev pub wanting : Plan → List LinkId
wanting plan = filter (is_without plan.bypasses) (inner_links plan.paths)

-- what is found for a link: a least detour as its bypass, or nothing where it has no detour
abbrev pub IsFound : Net → LinkId → Option Bypass → Type 0
IsFound net e None = (via : List LinkId) → is_detour net e via ≡ true → ⊥
IsFound net e (Some b) = (b.link ≡ e) × IsLeastDetour net e b.via

-- the bypasses that are found for links, in the order of the links
abbrev pub AreFound : Net → List LinkId → List Bypass → Type 0
AreFound net [] found = found ≡ []
AreFound net (e ∷ links) found =
    (o : Option Bypass) × (rest : List Bypass) × (found ≡ option_to_list o ++ rest) × IsFound net e o × AreFound net links rest

-- some bypass is for a link, and is a detour of it: one that shares a risk group with the link is none
abbrev pub is_protected : Net → List Bypass → LinkId → Bool
is_protected net bypasses e = list_any (λ (b : Bypass). (b.link.0 == e.0) && is_detour net e b.via) bypasses

-- the inner links of paths that have no detour among bypasses
abbrev pub unprotected : Net → List Path → List Bypass → List LinkId
unprotected net paths bypasses = filter (λ e. not (is_protected net bypasses e)) (inner_links paths)

-- a plan with the bypasses that were found behind its own
abbrev pub with_found : Plan → List Bypass → Plan
with_found plan found = record plan { bypasses = plan.bypasses ++ found }

-- while one risk group is out that has neither the first nor the last link of a path, the path's packets arrive: along the path, with
-- each link of the risk group replaced by its bypass
abbrev pub SurvivesEachGroup : Net → Plan → Type 0
SurvivesEachGroup net plan =
    (p : ℕ) (path : Path) (e z d : LinkId) → slice_get plan.paths p ≡ Some path → first_of path.links ≡ Some e → last_of path.links ≡ Some z
    → has (widened net (d ∷ [])) e ≡ false → has (widened net (d ∷ [])) z ≡ false
    → GoesAlong net plan path e (widened net (d ∷ [])) (rerouted plan.bypasses (widened net (d ∷ [])) path.links)
