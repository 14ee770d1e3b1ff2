-- The plan that a file has over its network, or its first fault; and the same of a file whose bypasses may be left out.
use Rattle.std.specs.Prelude.{ℕ, ◌==◌, not, List, [], length, position, is_none, unwrap_or, codes, Result, Ok, if◌then◌else◌}
use Rattle.serde_json.specs.Data.{Data, null}
use Rattle.serde_json.specs.Find.{get}
use Rattle.wi_net.specs.Net.{Net}
use Rattle.wi_net.specs.Builder.{◌>>=◌, rule}
use Rattle.wi_netjson.specs.File.{json_of}
use Rattle.wi_plan.specs.declared.plan.Path.{Path}
use Rattle.wi_plan.specs.declared.plan.Bypass.{Bypass}
use Rattle.wi_plan.specs.declared.plan.Plan.{Plan}
use Rattle.wi_plan.specs.Plans.{is_end}
use Rattle.wi_planjson.specs.declared.refused.Place.TheVariants.{Path as PathAt}
use Rattle.wi_planjson.specs.declared.refused.PlanRefused.{PlanRefused}
use Rattle.wi_planjson.specs.declared.refused.PlanRefused.TheVariants.{NotEmpty, Continues}
use Rattle.wi_planjson.specs.Reading.{nowhere}
use Rattle.wi_planjson.specs.Paths.{paths_of}
use Rattle.wi_planjson.specs.Bypasses.{bypasses_of}

-- no path goes on where it ends
abbrev pub all_end : List Path → Result (Unit {0}) PlanRefused
all_end paths = nowhere (λ i. Continues (PathAt i)) (position (λ path. not (is_end paths path)) paths)

-- over a network that has no tables: the paths, then the bypasses as they are to be read, then where paths end
unfoldable pub plan_by : (Net → Data → Result (List Bypass) PlanRefused) → Net → Data → Result Plan PlanRefused
plan_by bypasses_in net d = do
  _ ← rule NotEmpty (length net.rows == 0)
  paths ← paths_of net d
  bypasses ← bypasses_in net d
  _ ← all_end paths
  Ok (record { paths = paths; bypasses = bypasses })

abbrev pub plan_of : Net → Data → Result Plan PlanRefused
plan_of net d = plan_by bypasses_of net d

-- bypasses that may be left out
unfoldable pub drafted_bypasses_of : Net → Data → Result (List Bypass) PlanRefused
drafted_bypasses_of net d = if is_none (get (codes "bypasses") d) then Ok [] else bypasses_of net d

abbrev pub draft_of : Net → Data → Result Plan PlanRefused
draft_of net d = plan_by drafted_bypasses_of net d

-- what bytes read as: what is no JSON has no members
abbrev pub value_in : List ℕ → Data
value_in bytes = unwrap_or (json_of bytes) null

-- the plan in a file
unfoldable pub plan_in : Net → List ℕ → Result Plan PlanRefused
plan_in net bytes = plan_of net (value_in bytes)

-- the plan in a file that may leave the bypasses out
unfoldable pub draft_in : Net → List ℕ → Result Plan PlanRefused
draft_in net bytes = draft_of net (value_in bytes)
