-- The keys by which earlier paths and bypasses are found.
use Rattle.std.specs.Prelude.{ℕ, List, [], ◌∷◌}
use Rattle.std.specs.Option.{option_map_or}
use Rattle.wi_net.specs.declared.parts.LinkId.{LinkId}
use Rattle.wi_plan.specs.declared.plan.Path.{Path}
use Rattle.wi_plan.specs.declared.plan.Bypass.{Bypass}
use Rattle.wi_plan.specs.Plans.{first_of}

-- the first link and the label of each path
abbrev pub starts_of : List Path → List (ℕ × ℕ)
starts_of [] = []
starts_of (path ∷ paths) = option_map_or (λ e. (e.0, path.ip.0) ∷ starts_of paths) (first_of path.links) (starts_of paths)

-- the link of each bypass
abbrev pub links_of : List Bypass → List LinkId
links_of [] = []
links_of (bypass ∷ bypasses) = bypass.link ∷ links_of bypasses
