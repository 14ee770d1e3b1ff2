-- What atoms mean: sets of labels and of links, as tests on their numbers.
use Rattle.std.specs.Prelude.{ℕ, Bool, true, false, not, ◌&&◌, ◌==◌, nat_lt, codes, if◌then◌else◌, List, length, slice_get, slice_index_or, Option, Some, None}
use Rattle.std.specs.List.{list_any}
use Rattle.std.specs.Option.{option_map_or, option_and_then}
use Rattle.std.specs.Str.{bytes_eq}
use Rattle.wi_labels.specs.declared.label.Class.{Class}
use Rattle.wi_labels.specs.declared.label.Class.TheVariants.{Mpls, Smpls, Ip}
use Rattle.wi_labels.specs.Header.{same_class}
use Rattle.wi_net.specs.declared.parts.RouterId.{RouterId}
use Rattle.wi_net.specs.declared.parts.LinkId.{LinkId}
use Rattle.wi_net.specs.Net.{Net}
use Rattle.wi_net.specs.Finding.{find_label, find_router, find_out, find_in}
use Rattle.wi_syntax.specs.Names.{Named}
use Rattle.wi_syntax.specs.declared.written.LabelAtom.{LabelAtom}
use Rattle.wi_syntax.specs.declared.written.LabelAtom.TheVariants as label
use Rattle.wi_syntax.specs.declared.written.End.{End}
use Rattle.wi_syntax.specs.declared.written.End.TheVariants as end
use Rattle.wi_syntax.specs.declared.written.Pair.{Pair}
use Rattle.wi_syntax.specs.declared.written.LinkAtom.{LinkAtom}
use Rattle.wi_syntax.specs.declared.written.LinkAtom.TheVariants as link

-- a set of symbols, as a mark for each
abbrev pub SymbolMarks : Type 0
SymbolMarks = List Bool

-- a symbol is in a set
abbrev pub holds : SymbolMarks → ℕ → Bool
holds set x = slice_index_or set x false

-- one of a list, or where all but these are meant, none of it
abbrev pub among : {X : Type 0} → Bool → (X → Bool) → List X → Bool
among except p xs = if except then not (list_any p xs) else list_any p xs

-- the class that a word means without quotation marks
abbrev pub class_of_word : List ℕ → Option Class
class_of_word s =
    if bytes_eq s (codes "mpls") then Some Mpls else
    if bytes_eq s (codes "smpls") then Some Smpls else
    if bytes_eq s (codes "ip") then Some Ip else None

abbrev pub class_named : Named → Option Class
class_named name = if name.quoted then None else class_of_word name.text

-- a label is the one of a name, or of the class that is named
abbrev pub is_label_named : Net → Named → ℕ → Bool
is_label_named net name x =
    elim (class_named name) [
      | Some class ↦ option_map_or (λ c. same_class c class) (slice_get net.classes x) false
      | None ↦ option_map_or (λ l. l.0 == x) (find_label net name.text) false
    ]

-- the labels of an atom
abbrev pub is_label_of : Net → LabelAtom → ℕ → Bool
is_label_of net label.Any x = nat_lt x (length net.labels)
is_label_of net (label.Name name) x = nat_lt x (length net.labels) && is_label_named net name x
is_label_of net (label.List except names) x = nat_lt x (length net.labels) && among except (λ name. is_label_named net name x) names

-- a link begins, or ends, at a router of a name
abbrev pub is_router_named : Net → Named → RouterId → Bool
is_router_named net name r = option_map_or (λ id. id.0 == r.0) (find_router net name.text) false

abbrev pub is_interface_named : Net → (RouterId → List ℕ → Option LinkId) → Named → Named → ℕ → Bool
is_interface_named net find router interface x = option_map_or (λ e. e.0 == x) (option_and_then (λ id. find id interface.text) (find_router net router.text)) false

-- where a link comes from, and where it goes to
abbrev pub comes_from : Net → End → ℕ → Bool
comes_from net (end.Any at) x = true
comes_from net (end.Router router) x = option_map_or (λ l. is_router_named net router l.from) (slice_get net.links x) false
comes_from net (end.Interface router interface) x = is_interface_named net (find_out net) router interface x

abbrev pub goes_to : Net → End → ℕ → Bool
goes_to net (end.Any at) x = true
goes_to net (end.Router router) x = option_map_or (λ l. is_router_named net router l.to) (slice_get net.links x) false
goes_to net (end.Interface router interface) x = is_interface_named net (find_in net) router interface x

-- a link is one of a pair, of an atom
abbrev pub is_link_between : Net → Pair → ℕ → Bool
is_link_between net pair x = comes_from net pair.from x && goes_to net pair.to x

abbrev pub is_link_of : Net → LinkAtom → ℕ → Bool
is_link_of net link.Any x = nat_lt x (length net.links)
is_link_of net (link.List except pairs) x = nat_lt x (length net.links) && among except (λ pair. is_link_between net pair x) pairs
