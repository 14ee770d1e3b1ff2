-- A plan from its parts.
use Rattle.std.specs.Prelude.{List}
use Rattle.wi_plan.specs.declared.plan.Path.{Path}
use Rattle.wi_plan.specs.declared.plan.Bypass.{Bypass}
use Rattle.wi_plan.specs.declared.plan.Plan.{Plan}

abbrev pub plan_with : List Path → List Bypass → Plan
plan_with paths bypasses = record { paths = paths; bypasses = bypasses }
