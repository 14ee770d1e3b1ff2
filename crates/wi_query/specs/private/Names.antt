-- Names looked up, each once.
use Rattle.std.specs.Prelude.{◌≡◌, ℕ, Bool, true, false, not, ◌&&◌, ◌==◌, if◌then◌else◌, List, ◌∷◌, Option, Some, None, length, map, string_bytes, slice_get}
use Rattle.std.specs.Option.{option_map, option_map_or, option_and_then}
use Rattle.std.specs.List.{range_with_len, list_any}
use Rattle.wi_labels.specs.Header.{same_class}
use Rattle.wi_net.specs.declared.parts.RouterId.{RouterId}
use Rattle.wi_net.specs.declared.parts.LinkId.{LinkId}
use Rattle.wi_net.specs.Net.{Net}
use Rattle.wi_net.specs.Finding.{find_label, find_router, find_out, find_in}
use Rattle.wi_syntax.specs.Names.{Named}
use Rattle.wi_syntax.specs.declared.written.End.{End}
use Rattle.wi_syntax.specs.declared.written.End.TheVariants as end
use Rattle.wi_syntax.specs.declared.written.Pair.{Pair}
use Rattle.wi_query.specs.Sets.{SymbolMarks, class_named}
use Rattle.wi_query.specs.Unknown.{Unknown, ALabel, ARouter, AnInterface}
use Rattle.wi_query.specs.declared.fault.QueryFault.{QueryFault}
use Rattle.wi_query.specs.declared.fault.QueryFault.TheVariants.{Memory, UnknownLabel, UnknownRouter, UnknownInterface}
use Rattle.wi_query.specs.declared.names.LabelName.{LabelName}
use Rattle.wi_query.specs.declared.names.LabelName.TheVariants.{OfClass, One}
use Rattle.wi_query.specs.declared.names.EndMeant.{EndMeant}
use Rattle.wi_query.specs.declared.names.EndMeant.TheVariants as end_meant_by
use Rattle.wi_query.specs.declared.names.Ends.{Ends}
use Rattle.wi_query.specs.declared.names.Side.{Side}
use Rattle.wi_query.specs.declared.names.Side.TheVariants.{Source, Target}

-- a fault tells the first of these names, of which there is one
abbrev pub IsFirst : List Unknown → QueryFault → Type 0
IsFirst names Memory = Unit {0}
IsFirst names (UnknownLabel at text) = (quoted : Bool) × (rest : List Unknown) × (names ≡ (ALabel, record { at = at; quoted = quoted; text = string_bytes text }) ∷ rest)
IsFirst names (UnknownRouter at text) = (quoted : Bool) × (rest : List Unknown) × (names ≡ (ARouter, record { at = at; quoted = quoted; text = string_bytes text }) ∷ rest)
IsFirst names (UnknownInterface at text) = (quoted : Bool) × (rest : List Unknown) × (names ≡ (AnInterface, record { at = at; quoted = quoted; text = string_bytes text }) ∷ rest)
IsFirst names fault = ⊥

-- what a name of a label stands for
abbrev pub label_meant : Net → Named → Option LabelName
label_meant net name =
    elim (class_named name) [
      | Some class ↦ Some (OfClass class)
      | None ↦ option_map One (find_label net name.text)
    ]

-- whether a label is one that is meant
abbrev pub is_meant : Net → LabelName → ℕ → Bool
is_meant net (OfClass class) x = option_map_or (λ c. same_class c class) (slice_get net.classes x) false
is_meant net (One l) x = l.0 == x

-- how a link is found by a router and an interface
abbrev pub finder : Net → Side → RouterId → List ℕ → Option LinkId
finder net Source = find_out net
finder net Target = find_in net

-- what an end of a link stands for
abbrev pub end_meant : Net → (RouterId → List ℕ → Option LinkId) → End → Option EndMeant
end_meant net find (end.Any at) = Some end_meant_by.Any
end_meant net find (end.Router router) = option_map end_meant_by.At (find_router net router.text)
end_meant net find (end.Interface router interface) = option_map end_meant_by.By (option_and_then (λ id. find id interface.text) (find_router net router.text))

abbrev pub ends_meant : Net → Pair → Option Ends
ends_meant net pair =
    option_and_then (λ source. option_map (λ target. record { source = source; target = target }) (end_meant net (find_in net) pair.to)) (end_meant net (find_out net) pair.from)

-- whether a link with this router at its end, and of this number, is one that is meant
abbrev pub is_at : EndMeant → RouterId → ℕ → Bool
is_at end_meant_by.Any router x = true
is_at (end_meant_by.At id) router x = id.0 == router.0
is_at (end_meant_by.By e) router x = e.0 == x

abbrev pub is_between : Net → Ends → ℕ → Bool
is_between net ends x = option_map_or (λ l. is_at ends.source l.from x && is_at ends.target l.to x) (slice_get net.links x) false

-- each of a list is looked up
abbrev pub AreMeant : {X M : Type 0} → (X → Option M) → List X → List M → Type 0
AreMeant meant xs ms = map meant xs ≡ map Some ms

-- a mark for each of so many symbols
abbrev pub marks_of : ℕ → (ℕ → Bool) → SymbolMarks
marks_of n p = map p (range_with_len 0 n)

-- whether a symbol is meant, where some part of a list may mean it
abbrev pub chosen : Bool → Bool → Bool
chosen except any = if except then not any else any

-- the labels that names stand for, and the links that pairs stand for, or all but these
abbrev pub label_marks : Net → Bool → List LabelName → SymbolMarks
label_marks net except names = marks_of (length net.labels) (λ x. chosen except (list_any (λ name. is_meant net name x) names))

abbrev pub link_marks : Net → Bool → List Ends → SymbolMarks
link_marks net except pairs = marks_of (length net.links) (λ x. chosen except (list_any (λ ends. is_between net ends x) pairs))
