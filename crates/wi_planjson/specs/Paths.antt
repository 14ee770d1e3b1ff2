-- The paths of a plan.
use Rattle.std.specs.Prelude.{ℕ, Bool, true, not, nat_le, List, [], ◌∷◌, ◌++◌, length, codes, Result, Ok}
use Rattle.std.specs.List.{list_any}
use Rattle.std.specs.Option.{option_map_or}
use Rattle.serde_json.specs.Data.{Data}
use Rattle.serde_json.specs.Find.{get}
use Rattle.wi_net.specs.Net.{Net}
use Rattle.wi_net.specs.Builder.{◌>>=◌, rule, found_or}
use Rattle.wi_plan.specs.declared.plan.Path.{Path}
use Rattle.wi_plan.specs.Plans.{first_of, sets_out}
use Rattle.wi_planjson.specs.declared.refused.Place.TheVariants.{Paths, Path as PathAt, PathIp, PathLinks, PathLink}
use Rattle.wi_planjson.specs.declared.refused.PlanRefused.{PlanRefused}
use Rattle.wi_planjson.specs.declared.refused.PlanRefused.TheVariants.{Unknown, TooShort, Broken, Repeated, Taken}
use Rattle.wi_planjson.specs.Reading.{text, list, object, each, nowhere}
use Rattle.wi_planjson.specs.Names.{ip_of, are_named, links_in}
use Rattle.wi_planjson.specs.Routes.{first_break, first_repeat}

-- no path's packets set out where this one's do
abbrev pub is_free : List Path → Path → Bool
is_free paths path = option_map_or (λ e. not (list_any (sets_out e path.ip) paths)) (first_of path.links) true

-- what is asked of a path of known links and label, after those before it
unfoldable pub path_rules : Net → List Path → ℕ → Path → Result (Unit {0}) PlanRefused
path_rules net paths i path = do
  _ ← rule (TooShort (PathLinks i)) (nat_le 3 (length path.links))
  _ ← nowhere (λ j. Broken (PathLink i j)) (first_break net path.links)
  _ ← nowhere (λ j. Repeated (PathLink i j)) (first_repeat path.links)
  rule (Taken (PathAt i)) (is_free paths path)

-- the path that a value names: all shapes first, then the names
unfoldable pub path_of : Net → ℕ → Data → Result Path PlanRefused
path_of net i d = do
  o ← object (PathAt i) d
  name ← text (PathIp i) (get (codes "ip") o)
  items ← list (PathLinks i) (get (codes "links") o)
  _ ← are_named (PathLink i) items
  ip ← found_or (Unknown (PathIp i)) (ip_of net name)
  links ← links_in net (PathLink i) items
  Ok (record { ip = ip; links = links })

-- one more path
unfoldable pub path_at : Net → List Path → ℕ → Data → Result (List Path) PlanRefused
path_at net paths i d = do
  path ← path_of net i d
  _ ← path_rules net paths i path
  Ok (paths ++ path ∷ [])

unfoldable pub paths_of : Net → Data → Result (List Path) PlanRefused
paths_of net d = do
  items ← list Paths (get (codes "paths") d)
  each (path_at net) [] 0 items
