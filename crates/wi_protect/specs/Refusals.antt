-- Why a plan's network can't be made, and what is answered.
use Rattle.std.specs.Prelude.{◌≡◌, ℕ, ◌+◌, Bool, nat_lt, if◌then◌else◌, List, length, is_some, ◌++◌, Option, Some, None, Result, Ok, Err}
use Rattle.std.specs.List.{list_any}
use Rattle.wi_net.specs.declared.limits.TheConstants.{LABEL_LIMIT}
use Rattle.wi_net.specs.Names.{place}
use Rattle.wi_net.specs.Net.{Net}
use Rattle.wi_protect.specs.declared.refused.ProtectRefused.{ProtectRefused}
use Rattle.wi_protect.specs.declared.refused.ProtectRefused.TheVariants.{Memory, TakenLabel, TooManyLabels}
use Rattle.wi_plan.specs.declared.plan.Plan.{Plan}
use Rattle.wi_protect.specs.Labels.{paths_names, bypasses_names, new_labels}
use Rattle.wi_protect.specs.Protected.{protected}

-- a label of the network has the name
abbrev pub is_taken : Net → List ℕ → Bool
is_taken net name = is_some (place net.labels name)

-- the name of a new label is there already
abbrev pub has_taken : Net → Plan → Bool
has_taken net plan = list_any (is_taken net) (bypasses_names 1 plan.bypasses ++ paths_names 1 plan.paths)

-- there would be more labels than a network may have
abbrev pub has_too_many : Net → Plan → Bool
has_too_many net plan = nat_lt LABEL_LIMIT (length net.labels + new_labels plan)

-- the first fault of the new labels
abbrev pub fault_of : Net → Plan → Option ProtectRefused
fault_of net plan = if has_taken net plan then Some TakenLabel else if has_too_many net plan then Some TooManyLabels else None

-- the plan's network where there is no fault, and else the fault; memory may run out before either is known
abbrev pub Protects : Net → Plan → Result Net ProtectRefused → Type 0
Protects net plan (Ok made) = (fault_of net plan ≡ None) × (made ≡ protected net plan)
Protects net plan (Err Memory) = Unit {0}
Protects net plan (Err e) = fault_of net plan ≡ Some e
