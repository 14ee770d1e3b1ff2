-- Labels and rows that are added to a network that is being built, one after the other.
use Rattle.std.specs.Prelude.{◌≡◌, ℕ, ◌+◌, Bool, true, nat_le, if◌then◌else◌, List, [], ◌∷◌, Ok}
use Rattle.std.specs.List.{list_all}
use Rattle.wi_labels.specs.Header.{same_class}
use Rattle.wi_labels.specs.declared.label.Class.{Class}
use Rattle.wi_net.specs.declared.limits.TheConstants.{LABEL_LIMIT}
use Rattle.wi_net.specs.declared.parts.TableRow.{TableRow}
use Rattle.wi_net.specs.Network.{is_no_later}
use Rattle.wi_net.specs.Builder.{Draft, add_label, with_label, add_table, with_row}
use Rattle.wi_plan.specs.declared.plan.Path.{Path}

-- a network with things that are added one after the other
abbrev pub added : {X : Type 0} → (Draft → X → Draft) → Draft → List X → Draft
added add d [] = d
added add d (x ∷ xs) = added add (add d x) xs

-- each of them may be added in its turn
abbrev pub MayAdd : {X : Type 0} → (Draft → X → Type 0) → (Draft → X → Draft) → Draft → List X → Type 0
MayAdd may add d [] = Unit {0}
MayAdd may add d (x ∷ xs) = may d x × MayAdd may add (add d x) xs

-- a label breaks no rule, and isn't of a class before others that are there
abbrev pub MayLabel : Class → Draft → List ℕ → Type 0
MayLabel class d name = (add_label d class name ≡ Ok (with_label d class name)) × (list_all (λ c. is_no_later c class) d.net.classes ≡ true)

abbrev pub CanLabel : Class → Draft → List (List ℕ) → Type 0
CanLabel class d names = MayAdd (MayLabel class) (λ e name. with_label e class name) d names

abbrev pub with_labels : Class → Draft → List (List ℕ) → Draft
with_labels class d names = added (λ e name. with_label e class name) d names

-- a row breaks no rule
abbrev pub MayRow : Draft → TableRow → Type 0
MayRow d row = add_table d row.link row.label row.groups ≡ Ok (with_row d row)

abbrev pub CanAdd : Draft → List TableRow → Type 0
CanAdd d rows = MayAdd MayRow with_row d rows

abbrev pub with_rows : Draft → List TableRow → Draft
with_rows d rows = added with_row d rows

-- the name of a label, if it is of a class
abbrev pub name_if : Class → Class → List ℕ → List (List ℕ)
name_if class c s = if same_class class c then s ∷ [] else []

-- the numbers of paths' ip labels stay small once so many labels more stand before them
abbrev pub are_low : ℕ → List Path → Bool
are_low k paths = list_all (λ (path : Path). nat_le (path.ip.0 + k) LABEL_LIMIT) paths
