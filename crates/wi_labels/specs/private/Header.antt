-- Headers, as the code that rewrites them speaks of them.
use Rattle.std.specs.Prelude.{◌≡◌, Bool, true, false, List, Option, Some, Ok, Err}
use Rattle.wi_labels.specs.declared.label.Class.TheVariants.{Ip}
use Rattle.wi_labels.specs.declared.ops.Op.{Op}
use Rattle.wi_labels.specs.declared.header.Applied.{Applied}
use Rattle.wi_labels.specs.declared.header.Applied.TheVariants.{Done, Undefined}
use Rattle.wi_labels.specs.Header.{Entry, outcome}

-- there is a label, and it is an ip label
abbrev pub is_ip : Option Entry → Bool
is_ip (Some (l, Ip)) = true
is_ip _ = false

-- what the operations make of a header, and what is answered
abbrev pub Applies : List Op → List Entry → Applied → List Entry → Type 0
Applies ops old Done new = outcome 0 ops old ≡ Ok new
Applies ops old (Undefined i) new = (outcome 0 ops old ≡ Err i) × (new ≡ old)
