-- Headers, and what operations do to them (RFC 3031, sections 3.9 to 3.11).
use Rattle.std.specs.Prelude.{ℕ, ◌+◌, Bool, true, false, if◌then◌else◌, List, [], ◌∷◌, Option, Some, None, Result, Ok, Err}
use Rattle.std.specs.Result.{result_ok}
use Rattle.wi_labels.specs.declared.label.Label.{Label}
use Rattle.wi_labels.specs.declared.label.Class.{Class}
use Rattle.wi_labels.specs.declared.label.Class.TheVariants.{Mpls, Smpls, Ip}
use Rattle.wi_labels.specs.declared.ops.Op.{Op}
use Rattle.wi_labels.specs.declared.ops.Op.TheVariants.{Swap, Push, Pop}

-- a label of a header, with its class
abbrev pub Entry : Type 0
Entry = Label × Class

-- any number of mpls labels, then one smpls label, then one ip label
abbrev pub is_tunnel : List Entry → Bool
is_tunnel ((l, Mpls) ∷ below) = is_tunnel below
is_tunnel ((l, Smpls) ∷ (m, Ip) ∷ []) = true
is_tunnel _ = false

-- one ip label alone, or a tunnel
abbrev pub is_valid_header : List Entry → Bool
is_valid_header ((l, Ip) ∷ []) = true
is_valid_header h = is_tunnel h

abbrev pub same_class : Class → Class → Bool
same_class Mpls Mpls = true
same_class Smpls Smpls = true
same_class Ip Ip = true
same_class _ _ = false

-- an operation is defined on a header whose top has this class
abbrev pub allowed : Op → Class → Bool
allowed (Swap l Mpls) Mpls = true
allowed (Swap l Smpls) Smpls = true
allowed (Swap l Ip) Ip = true
allowed (Push l Mpls) Mpls = true
allowed (Push l Mpls) Smpls = true
allowed (Push l Smpls) Ip = true
allowed Pop Mpls = true
allowed Pop Smpls = true
allowed _ _ = false

-- what an operation leaves of a top and what is below it
abbrev pub effect : Op → Entry → List Entry → List Entry
effect (Swap l c) top below = (l, c) ∷ below
effect (Push l c) top below = (l, c) ∷ top ∷ below
effect Pop top below = below

-- the header after one operation, where that is defined
abbrev pub after_op : Op → List Entry → Option (List Entry)
after_op op [] = None
after_op op (top ∷ below) = if allowed op top.1 then Some (effect op top below) else None

-- the header after each of the operations in turn, or the first operation that isn't defined, counted from at
abbrev pub outcome : ℕ → List Op → List Entry → Result (List Entry) ℕ
outcome at [] h = Ok h
outcome at (op ∷ ops) h = elim (after_op op h) [ Some next ↦ outcome (at + 1) ops next | None ↦ Err at ]

-- the header after a list of operations, where each of them is defined
abbrev pub after_ops : List Op → List Entry → Option (List Entry)
after_ops ops h = result_ok (outcome 0 ops h)
