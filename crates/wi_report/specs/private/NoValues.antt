-- Labels that have no value on the wire.
use Rattle.std.specs.Prelude.{ℕ, ◌<◌, List, [], ◌++◌, codes, length}
use Rattle.wi_net.specs.Net.{Net}
use Rattle.wi_wire.specs.declared.refused.NoValue.{NoValue}
use Rattle.wi_wire.specs.declared.refused.NoValue.TheVariants as no_value
use Rattle.wi_faults.specs.Shown.{label_shown}

-- what is said of a label that has none
abbrev pub no_value_shown : Net → NoValue → List ℕ
no_value_shown net (no_value.Label l) = codes "label " ++ label_shown net l ++ codes " has no value"
no_value_shown net no_value.Memory = []

-- the label is the network's
abbrev pub IsLabelOf : Net → NoValue → Type 0
IsLabelOf net (no_value.Label l) = l.0 < length net.labels
IsLabelOf net no_value.Memory = Unit {0}
