-- Labels of a network as values on the wire. An `mpls` label's name is its value in decimal; an `smpls` label's name is `s` and its
-- value; an `ip` label has none.
use Rattle.std.specs.Prelude.{◌≡◌, ℕ, ◌&&◌, ◌==◌, if◌then◌else◌, codes, List, [], ◌∷◌, ◌++◌, slice_get, option_map, option_and_then, Option, Some, None, Result, Ok, Err}
use Rattle.std.specs.Result.{result_map_both}
use Rattle.std.specs.Fmt.{decimal}
use Rattle.std.specs.Str.Parse.{digits_value}
use Rattle.wi_text.specs.Characters.{is_number}
use Rattle.wi_labels.specs.declared.label.Class.{Class}
use Rattle.wi_labels.specs.declared.label.Class.TheVariants.{Mpls, Smpls, Ip}
use Rattle.wi_labels.specs.declared.label.Label.{Label}
use Rattle.wi_labels.specs.Header.{Entry as Labelled}
use Rattle.wi_net.specs.Net.{Net, label_known}
use Rattle.wi_net.specs.Finding.{find_label}
use Rattle.wi_wire.specs.declared.entry.Entry.{Entry}
use Rattle.wi_wire.specs.declared.refused.NoValue.{NoValue}
use Rattle.wi_wire.specs.declared.refused.NoValue.TheVariants as no_value
use Rattle.wi_wire.specs.Stacks.{is_free}

-- the value that a number is, as it is written
abbrev pub value_in : List ℕ → Option ℕ
value_in s = if is_number s && is_free (digits_value 10 s) then Some (digits_value 10 s) else None

-- the value of a label of a class, by its name
abbrev pub value_of : Class → List ℕ → Option ℕ
value_of Mpls name = value_in name
value_of Smpls (c ∷ name) = if c == 115 then value_in name else None
value_of _ _ = None

-- the entries of a header, top first, or the first label that has no value
abbrev pub entries_of : Net → ℕ → List Labelled → Result (List Entry) Label
entries_of net ttl [] = Ok []
entries_of net ttl ((l, Ip) ∷ below) = entries_of net ttl below
entries_of net ttl ((l, c) ∷ below) = elim (option_and_then (value_of c) (slice_get net.labels l.0)) [
  | Some v ↦ result_map_both (λ entries. record { label = v; exp = 0; ttl = ttl } ∷ entries) (λ l. l) (entries_of net ttl below)
  | None ↦ Err l
]

-- this label has no value, and each above it has one
abbrev pub HasNoValue : Net → ℕ → List Labelled → NoValue → Type 0
HasNoValue net ttl header no_value.Memory = Unit {0}
HasNoValue net ttl header (no_value.Label l) = entries_of net ttl header ≡ Err l

-- the name of the label of a class that has a value
abbrev pub name_of : Class → ℕ → List ℕ
name_of Mpls v = decimal v
name_of Smpls v = codes "s" ++ decimal v
name_of Ip v = []

-- a label as one of a class, if it is
abbrev pub of_class : Net → Class → Label → Option Labelled
of_class net c l = if label_known net.classes (l, c) then Some (l, c) else None

-- the label of a class that has a value
abbrev pub label_of : Net → Class → ℕ → Option Labelled
label_of net c v = option_and_then (of_class net c) (find_label net (name_of c v))

-- the labels of entries, top first: the last is an smpls label, the others mpls
abbrev pub labels_of : Net → List Entry → Option (List Labelled)
labels_of net [] = Some []
labels_of net (e ∷ []) = option_map (λ l. l ∷ []) (label_of net Smpls e.label)
labels_of net (e ∷ f ∷ entries) =
    option_and_then (λ l. option_map (λ ls. l ∷ ls) (labels_of net (f ∷ entries))) (label_of net Mpls e.label)

-- the header of entries over an ip label
abbrev pub header_of : Net → List Entry → Label → Option (List Labelled)
header_of net entries ip =
    option_and_then (λ labels. option_map (λ bottom. labels ++ bottom ∷ []) (of_class net Ip ip)) (labels_of net entries)
