-- Labels and their entries, one by one.
use Rattle.std.specs.Prelude.{ℕ, Bool, true, false, Option, Some, None, slice_get, option_and_then, Result, Ok, Err}
use Rattle.wi_labels.specs.declared.label.Label.{Label}
use Rattle.wi_labels.specs.declared.label.Class.{Class}
use Rattle.wi_labels.specs.declared.label.Class.TheVariants.{Mpls, Smpls, Ip}
use Rattle.wi_labels.specs.Header.{Entry as Labelled}
use Rattle.wi_net.specs.Net.{Net}
use Rattle.wi_wire.specs.declared.entry.Entry.{Entry}
use Rattle.wi_wire.specs.declared.refused.NoValue.{NoValue}
use Rattle.wi_wire.specs.declared.refused.NoValue.TheVariants as no_value
use Rattle.wi_wire.specs.Values.{value_of}

-- the value of a label of the network
abbrev pub value_at : Net → Labelled → Option ℕ
value_at net (l, c) = option_and_then (value_of c) (slice_get net.labels l.0)

-- the entry of a label whose value is given, if it has one
abbrev pub entry_with : ℕ → Label → Option ℕ → Result (Option Entry) NoValue
entry_with ttl l (Some v) = Ok (Some (record { label = v; exp = 0; ttl = ttl }))
entry_with ttl l None = Err (no_value.Label l)

-- the entry of a label; none for an ip label
abbrev pub entry_at : Net → ℕ → Labelled → Result (Option Entry) NoValue
entry_at net ttl (l, Ip) = Ok None
entry_at net ttl (l, c) = entry_with ttl l (value_at net (l, c))

-- the class of the bottom label of a stack, and of the others
abbrev pub class_of : Bool → Class
class_of true = Smpls
class_of false = Mpls
