-- The texts of what is wrong with plans, and with the networks that they ask for.
use Rattle.std.specs.Prelude.{ℕ, List, ◌++◌, codes}
use Rattle.wi_planjson.specs.declared.refused.Place.{Place}
use Rattle.wi_planjson.specs.declared.refused.Place.TheVariants as place
use Rattle.wi_planjson.specs.declared.refused.PlanRefused.{PlanRefused}
use Rattle.wi_planjson.specs.declared.refused.PlanRefused.TheVariants as plan
use Rattle.wi_protect.specs.declared.refused.ProtectRefused.{ProtectRefused}
use Rattle.wi_protect.specs.declared.refused.ProtectRefused.TheVariants as protect
use Rattle.wi_faults.specs.NetworkFaults.{element_text}

-- a member of an element of a list
abbrev pub part_of : List ℕ → ℕ → List ℕ → List ℕ
part_of list i word = element_text list i ++ word

-- a place in a file with a plan
abbrev pub place_text : Place → List ℕ
place_text place.Tables = codes "tables"
place_text place.Paths = codes "paths"
place_text (place.Path i) = element_text (codes "paths") i
place_text (place.PathIp i) = part_of (codes "paths") i (codes ".ip")
place_text (place.PathLinks i) = part_of (codes "paths") i (codes ".links")
place_text (place.PathLink i j) = element_text (codes "paths") i ++ element_text (codes ".links") j
place_text place.Bypasses = codes "bypasses"
place_text (place.Bypass i) = element_text (codes "bypasses") i
place_text (place.BypassLink i) = part_of (codes "bypasses") i (codes ".link")
place_text (place.BypassVia i) = part_of (codes "bypasses") i (codes ".via")
place_text (place.ViaLink i j) = element_text (codes "bypasses") i ++ element_text (codes ".via") j

-- a fault with these words at a place
abbrev pub at_text : Place → List ℕ → List ℕ
at_text place words = codes "plan: " ++ place_text place ++ codes ": " ++ words ++ codes "\n"

-- a file has no plan
abbrev pub plan_fault_text : PlanRefused → List ℕ
plan_fault_text plan.Memory = codes "whatif: out of memory\n"
plan_fault_text plan.NotEmpty = at_text place.Tables (codes "not empty")
plan_fault_text (plan.WrongShape p) = at_text p (codes "wrong shape")
plan_fault_text (plan.Unknown p) = at_text p (codes "unknown")
plan_fault_text (plan.TooShort p) = at_text p (codes "too short")
plan_fault_text (plan.Broken p) = at_text p (codes "broken")
plan_fault_text (plan.Repeated p) = at_text p (codes "repeated")
plan_fault_text (plan.Taken p) = at_text p (codes "taken")
plan_fault_text (plan.Continues p) = at_text p (codes "continues")

-- a plan's network can't be made
abbrev pub protect_fault_text : ProtectRefused → List ℕ
protect_fault_text protect.Memory = codes "whatif: out of memory\n"
protect_fault_text protect.TakenLabel = codes "plan: labels: taken\n"
protect_fault_text protect.TooManyLabels = codes "plan: labels: over the limit 20000\n"
