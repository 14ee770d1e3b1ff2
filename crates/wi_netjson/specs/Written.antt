-- The canonical text of a network.
use Rattle.std.specs.Prelude.{ℕ, ◌+◌, ◌==◌, Bool, List, [], ◌∷◌, ◌++◌, map, drop, slice_get, slice_index_or, unwrap_or, option_map, codes, decimal, if◌then◌else◌}
use Rattle.std.specs.List.{list_any}
use Rattle.serde_json.specs.Data.{Data, number, unsigned, string, array, object, Members, member, no_members}
use Rattle.serde_json.specs.View.{items_of}
use Rattle.serde_json.specs.Written.{compact_text}
use Rattle.wi_labels.specs.declared.label.Class.{Class}
use Rattle.wi_labels.specs.declared.label.Class.TheVariants.{Mpls, Smpls, Ip}
use Rattle.wi_labels.specs.declared.label.Label.{Label}
use Rattle.wi_labels.specs.declared.ops.Op.{Op}
use Rattle.wi_labels.specs.declared.ops.Op.TheVariants.{Swap, Push, Pop}
use Rattle.wi_labels.specs.Header.{same_class}
use Rattle.wi_net.specs.declared.parts.Link.{Link}
use Rattle.wi_net.specs.declared.parts.LinkId.{LinkId}
use Rattle.wi_net.specs.declared.parts.Member.{Member}
use Rattle.wi_net.specs.declared.parts.TableRow.{TableRow}
use Rattle.wi_net.specs.Net.{Net}

-- the name of a number
abbrev pub name_at : List (List ℕ) → ℕ → List ℕ
name_at names i = slice_index_or names i []

-- a list of values
abbrev pub list_of : {A : Type 0} → (A → Data) → List A → Data
list_of value xs = array (items_of (map value xs))

-- the labels of a class, in their order
abbrev pub labels_in : Class → List Class → List (List ℕ) → List (List ℕ)
labels_in class (c ∷ classes) (name ∷ names) = if same_class c class then name ∷ labels_in class classes names else labels_in class classes names
labels_in class _ _ = []

abbrev pub labels_data : Net → Data
labels_data net =
    object (member (codes "ip") (list_of string (labels_in Ip net.classes net.labels))
    (member (codes "mpls") (list_of string (labels_in Mpls net.classes net.labels))
    (member (codes "smpls") (list_of string (labels_in Smpls net.classes net.labels)) no_members)))

-- a risk group, told by its least link, has a later link too
abbrev pub is_larger : List Link → ℕ → Bool
is_larger links r = list_any (λ (l : Link). l.risk.0 == r) (drop (r + 1) links)

-- the name of a larger risk group
abbrev pub group_member : List Link → ℕ → Members → Members
group_member links r rest = if is_larger links r then member (codes "group") (string (codes "g" ++ decimal r)) rest else rest

-- a link: its members in the order of their names
abbrev pub link_data : Net → Link → Data
link_data net l =
    object (member (codes "distance") (number (unsigned l.distance))
    (member (codes "from") (string (name_at net.routers l.from.0))
    (group_member net.links l.risk.0
    (member (codes "in") (string (name_at net.interfaces l.in_if.0))
    (member (codes "out") (string (name_at net.interfaces l.out_if.0))
    (member (codes "to") (string (name_at net.routers l.to.0)) no_members))))))

-- the names of a link's ends
abbrev pub target_name : Net → LinkId → List ℕ
target_name net e = unwrap_or (option_map (λ (l : Link). name_at net.routers l.to.0) (slice_get net.links e.0)) []

abbrev pub out_name : Net → LinkId → List ℕ
out_name net e = unwrap_or (option_map (λ (l : Link). name_at net.interfaces l.out_if.0) (slice_get net.links e.0)) []

abbrev pub in_name : Net → LinkId → List ℕ
in_name net e = unwrap_or (option_map (λ (l : Link). name_at net.interfaces l.in_if.0) (slice_get net.links e.0)) []

abbrev pub label_name : Net → Label → List ℕ
label_name net l = name_at net.labels l.0

abbrev pub op_data : Net → Op → Data
op_data net (Swap l c) = list_of string (codes "swap" ∷ label_name net l ∷ [])
op_data net (Push l c) = list_of string (codes "push" ∷ label_name net l ∷ [])
op_data net Pop = list_of string (codes "pop" ∷ [])

-- a member of a group
abbrev pub way_data : Net → Member → Data
way_data net m = object (member (codes "ops") (list_of (op_data net) m.ops) (member (codes "out") (string (out_name net m.link)) no_members))

abbrev pub group_data : Net → List Member → Data
group_data net group = list_of (way_data net) group

abbrev pub row_data : Net → TableRow → Data
row_data net row =
    object (member (codes "at") (string (target_name net row.link))
    (member (codes "groups") (list_of (group_data net) row.groups)
    (member (codes "in") (string (in_name net row.link))
    (member (codes "label") (string (label_name net row.label)) no_members))))

-- some link is in a larger risk group
abbrev pub has_larger : List Link → Bool
has_larger links = list_any (λ (l : Link). is_larger links l.risk.0) links

abbrev pub format_of : Net → List ℕ
format_of net = if has_larger net.links then codes "mpls-whatif-2" else codes "mpls-whatif-1"

abbrev pub network_data : Net → Data
network_data net =
    object (member (codes "format") (string (format_of net))
    (member (codes "labels") (labels_data net)
    (member (codes "links") (list_of (link_data net) net.links)
    (member (codes "routers") (list_of string net.routers)
    (member (codes "tables") (list_of (row_data net) net.rows) no_members)))))

-- the compact text of a network's value
unfoldable pub text_of : Net → List ℕ
text_of net = compact_text (network_data net)
