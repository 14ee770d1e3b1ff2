-- Reading a value from the top down, with the first fault that is met.
use Rattle.std.specs.Prelude.{◌≡◌, ℕ, ◌+◌, List, Option, Some, None, Result, Ok, Err, is_some, option_and_then, if◌then◌else◌}
use Rattle.serde_json.specs.Data.{Data, Items, no_items, item}
use Rattle.serde_json.specs.Find.{as_str, as_array, as_object}
use Rattle.wi_net.specs.Builder.{◌>>=◌, found_or}
use Rattle.wi_planjson.specs.declared.refused.Place.{Place}
use Rattle.wi_planjson.specs.declared.refused.PlanRefused.{PlanRefused}
use Rattle.wi_planjson.specs.declared.refused.PlanRefused.TheVariants.{Memory, WrongShape}

-- a refusal other than want of memory is what reading gives
abbrev pub Fails : {Y : Type 0} → PlanRefused → Result Y PlanRefused → Type 0
Fails Memory read = Unit {0}
Fails refused read = read ≡ Err refused

-- what a function answered, seen by view, is what reading gives, unless memory ran out
abbrev pub Gives : {X Y : Type 0} → (X → Y) → Result X PlanRefused → Result Y PlanRefused → Type 0
Gives view (Ok x) read = read ≡ Ok (view x)
Gives view (Err refused) read = Fails refused read

-- what is there, or the wrong shape
abbrev pub text : Place → Option Data → Result (List ℕ) PlanRefused
text place found = found_or (WrongShape place) (option_and_then as_str found)

abbrev pub list : Place → Option Data → Result Items PlanRefused
list place found = found_or (WrongShape place) (option_and_then as_array found)

abbrev pub object : Place → Data → Result Data PlanRefused
object place d = if is_some (as_object d) then Ok d else Err (WrongShape place)

-- the elements in turn, each with its number and with what those before it left
abbrev pub each : {S : Type 0} → (S → ℕ → Data → Result S PlanRefused) → S → ℕ → Items → Result S PlanRefused
each step s i no_items = Ok s
each step s i (item d ds) = step s i d >>= λ next. each step next (i + 1) ds

-- a first place that fails, if there is one
abbrev pub nowhere : (ℕ → PlanRefused) → Option ℕ → Result (Unit {0}) PlanRefused
nowhere refused None = Ok tt
nowhere refused (Some i) = Err (refused i)
