-- What facility backup (RFC 4090, 3.2) gives a plan's paths, under any list of failed links and not only under whole risk groups.
use Rattle.std.specs.Prelude.{◌≡◌, ℕ, true, false, List, [], ◌∷◌, slice_get, Some}
use Rattle.std.specs.List.{list_all}
use Rattle.wi_net.specs.declared.parts.LinkId.{LinkId}
use Rattle.wi_net.specs.LinkSet.{has, is_apart}
use Rattle.wi_net.specs.Net.{Net}
use Rattle.wi_plan.specs.declared.plan.Path.{Path}
use Rattle.wi_plan.specs.declared.plan.Bypass.{Bypass}
use Rattle.wi_plan.specs.declared.plan.Plan.{Plan}
use Rattle.wi_plan.specs.Plans.{first_of, last_of}
use Rattle.wi_protect.specs.Protected.{protected, header_of}
use Rattle.wi_protect.specs.OneWay.{GoesOnly, failed_of, inner, replaced, is_saved, rerouted}

-- a packet that sets out on a path's first link, with the path's label alone, goes along these links and no others, and ends with
-- that header again
abbrev pub GoesAlong : Net → Plan → Path → LinkId → List LinkId → List LinkId → Type 0
GoesAlong net plan path e fails links = GoesOnly (protected net plan) fails e (header_of plan path) links (header_of plan path)

-- Where no link of a path failed, its packets go along it. Where one failed that has a bypass, and is neither the first nor the last, and
-- none of the bypass did, they go along the path with that link replaced by its bypass. And where several failed, neither the first nor
-- the last, each of which has a bypass of which none did, each is replaced by its bypass
pub record AreProtected (net : Net) (plan : Plan) : Type 0 where
  pub whole : (p : ℕ) (path : Path) (e : LinkId) (fails : List LinkId) → slice_get plan.paths p ≡ Some path → first_of path.links ≡ Some e
      → failed_of path.links fails ≡ [] → GoesAlong net plan path e fails path.links
  pub around : (p x : ℕ) (path : Path) (bypass : Bypass) (e : LinkId) (fails : List LinkId) → slice_get plan.paths p ≡ Some path → slice_get plan.bypasses x ≡ Some bypass → first_of path.links ≡ Some e
      → has (inner path.links) bypass.link ≡ true → failed_of path.links fails ≡ bypass.link ∷ [] → is_apart bypass.via fails ≡ true
      → GoesAlong net plan path e fails (replaced path.links bypass.link bypass.via)
  pub several : (p : ℕ) (path : Path) (e z : LinkId) (fails : List LinkId) → slice_get plan.paths p ≡ Some path → first_of path.links ≡ Some e → last_of path.links ≡ Some z
      → has fails e ≡ false → has fails z ≡ false → list_all (is_saved plan.bypasses fails) (inner path.links) ≡ true
      → GoesAlong net plan path e fails (rerouted plan.bypasses fails path.links)
