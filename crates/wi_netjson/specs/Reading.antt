-- Reading a value from the top down, with the first fault that is met.
use Rattle.std.specs.Prelude.{◌≡◌, ℕ, ◌+◌, List, Option, Some, None, Result, Ok, Err, is_some, nat_le, option_and_then, if◌then◌else◌}
use Rattle.serde_json.specs.Data.{Data, Items, no_items, item, Num}
use Rattle.serde_json.specs.Find.{as_str, as_array, as_object, as_number, as_u64}
use Rattle.serde_json.specs.Events.{items_len}
use Rattle.wi_net.specs.Builder.{◌>>=◌, rule, found_or}
use Rattle.wi_netjson.specs.declared.fault.Place.{Place}
use Rattle.wi_netjson.specs.declared.fault.NetFault.{NetFault}
use Rattle.wi_netjson.specs.declared.fault.NetFault.TheVariants.{Memory, WrongShape, OverLimit, BadNumber}

-- a fault other than want of memory is what reading gives
abbrev pub Fails : {Y : Type 0} → NetFault → Result Y NetFault → Type 0
Fails Memory read = Unit {0}
Fails fault read = read ≡ Err fault

-- what a function answered, seen by view, is what reading gives, unless memory ran out
abbrev pub Gives : {X Y : Type 0} → (X → Y) → Result X NetFault → Result Y NetFault → Type 0
Gives view (Ok x) read = read ≡ Ok (view x)
Gives view (Err fault) read = Fails fault read

-- what is there, or the wrong shape
abbrev pub shaped : {A : Type 0} → Place → Option A → Result A NetFault
shaped place found = found_or (WrongShape place) found

abbrev pub text : Place → Option Data → Result (List ℕ) NetFault
text place found = shaped place (option_and_then as_str found)

abbrev pub list : Place → Option Data → Result Items NetFault
list place found = shaped place (option_and_then as_array found)

abbrev pub object : Place → Option Data → Result Data NetFault
object place found = shaped place (option_and_then (λ d. if is_some (as_object d) then Some d else None) found)

abbrev pub number : Place → Option Data → Result Num NetFault
number place found = shaped place (option_and_then as_number found)

-- a number from 0 to 2^32 - 1
abbrev pub in_range : Place → Option ℕ → Result ℕ NetFault
in_range place (Some n) = if nat_le n 4294967295 then Ok n else Err (BadNumber place)
in_range place None = Err (BadNumber place)

abbrev pub whole : Place → Option Data → Result ℕ NetFault
whole place found = number place found >>= λ n. in_range place (as_u64 n)

-- a text, if anything is there
abbrev pub optional_text : Place → Option Data → Result (Option (List ℕ)) NetFault
optional_text place None = Ok None
optional_text place (Some d) = text place (Some d) >>= λ s. Ok (Some s)

-- so many things and those of a list aren't over a limit
abbrev pub limited : Place → ℕ → ℕ → Items → Result (Unit {0}) NetFault
limited place limit before items = rule (OverLimit place limit) (nat_le (before + items_len items) limit)

-- the elements in turn, each with its number and with what those before it left
abbrev pub each : {S : Type 0} → (S → ℕ → Data → Result S NetFault) → S → ℕ → Items → Result S NetFault
each step s i no_items = Ok s
each step s i (item d ds) = step s i d >>= λ next. each step next (i + 1) ds
