-- The operations of a member of a group.
use Rattle.std.specs.Prelude.{ℕ, List, [], ◌∷◌, ◌++◌, slice_get, codes, if◌then◌else◌, option_map, option_and_then, Option, Some, None, Result, Ok, Err}
use Rattle.std.specs.Str.{bytes_eq}
use Rattle.serde_json.specs.Data.{Data, Items, no_items, item}
use Rattle.serde_json.specs.Find.{as_str, as_array}
use Rattle.wi_labels.specs.declared.ops.Op.{Op}
use Rattle.wi_labels.specs.declared.ops.Op.TheVariants.{Swap, Push, Pop}
use Rattle.wi_labels.specs.Header.{Entry}
use Rattle.wi_net.specs.Net.{Net}
use Rattle.wi_net.specs.Finding.{find_label}
use Rattle.wi_net.specs.Builder.{◌>>=◌, found_or}
use Rattle.wi_netjson.specs.declared.fault.Place.{Place}
use Rattle.wi_netjson.specs.declared.fault.Place.TheVariants.{Operation}
use Rattle.wi_netjson.specs.declared.fault.NetFault.{NetFault}
use Rattle.wi_netjson.specs.declared.fault.NetFault.TheVariants.{UnknownLabel, BadOperation}

-- the label of a name, with its class
abbrev pub labelled : Net → List ℕ → Option Entry
labelled net name = option_and_then (λ l. option_map (λ c. (l, c)) (slice_get net.classes l.0)) (find_label net name)

-- a word and a label
abbrev pub two_words : Net → Place → Option (List ℕ) → Option (List ℕ) → Result Op NetFault
two_words net place (Some word) (Some name) =
    if bytes_eq word (codes "swap") then (found_or (UnknownLabel place) (labelled net name) >>= λ l. Ok (Swap l.0 l.1))
    else if bytes_eq word (codes "push") then (found_or (UnknownLabel place) (labelled net name) >>= λ l. Ok (Push l.0 l.1))
    else Err (BadOperation place)
two_words net place _ _ = Err (BadOperation place)

abbrev pub one_word : Place → Option (List ℕ) → Result Op NetFault
one_word place (Some word) = if bytes_eq word (codes "pop") then Ok Pop else Err (BadOperation place)
one_word place None = Err (BadOperation place)

-- ["swap", L], ["push", L] or ["pop"]
abbrev pub operation_of : Net → Place → Option Items → Result Op NetFault
operation_of net place (Some (item word no_items)) = one_word place (as_str word)
operation_of net place (Some (item word (item name no_items))) = two_words net place (as_str word) (as_str name)
operation_of net place _ = Err (BadOperation place)

-- one more operation
abbrev pub operation_at : Net → ℕ → ℕ → ℕ → List Op → ℕ → Data → Result (List Op) NetFault
operation_at net i j m before o d = operation_of net (Operation i j m o) (as_array d) >>= λ op. Ok (before ++ op ∷ [])
