-- The value of a network has no float.
use Rattle.std.proofs.Common.{◌≡◌, ℕ, Bool, true, false, List, [], ◌∷◌, map, refl, ap, ◌∙◌}
use Rattle.serde_json.specs.Data.{Data, string}
use Rattle.serde_json.specs.View.{items_of}
use Rattle.serde_json.specs.Written.{has_float, items_have_float, compact_text}
use Rattle.wi_labels.specs.declared.label.Class.TheVariants.{Mpls, Smpls, Ip}
use Rattle.wi_labels.specs.declared.ops.Op.{Op}
use Rattle.wi_labels.specs.declared.ops.Op.TheVariants.{Swap, Push, Pop}
use Rattle.wi_net.specs.declared.parts.Link.{Link}
use Rattle.wi_net.specs.declared.parts.Member.{Member}
use Rattle.wi_net.specs.declared.parts.TableRow.{TableRow}
use Rattle.wi_net.specs.Net.{Net}
use Rattle.wi_netjson.specs.Written.{list_of, labels_in, labels_data, is_larger, link_data, op_data, way_data, group_data, row_data, network_data, text_of}

items_plain : {X : Type 0} (f : X → Data) (xs : List X) → ((x : X) → has_float (f x) ≡ false) → items_have_float (items_of (map f xs)) ≡ false
items_plain f [] plain = refl
items_plain f (x ∷ xs) plain = rw (plain x, items_plain f xs plain) refl

pub list_plain : {X : Type 0} (f : X → Data) (xs : List X) → ((x : X) → has_float (f x) ≡ false) → has_float (list_of f xs) ≡ false
list_plain f xs plain = items_plain f xs plain

pub names_plain : (xs : List (List ℕ)) → has_float (list_of string xs) ≡ false
names_plain xs = list_plain string xs (λ x. refl)

op_plain : (net : Net) (op : Op) → has_float (op_data net op) ≡ false
op_plain net (Swap l c) = refl
op_plain net (Push l c) = refl
op_plain net Pop = refl

way_plain : (net : Net) (m : Member) → has_float (way_data net m) ≡ false
way_plain net m = rw (list_plain (op_data net) m.ops (op_plain net)) refl

pub row_plain : (net : Net) (row : TableRow) → has_float (row_data net row) ≡ false
row_plain net row = rw (list_plain (group_data net) row.groups (λ g. list_plain (way_data net) g (way_plain net))) refl

pub link_plain : (net : Net) (l : Link) → has_float (link_data net l) ≡ false
link_plain net l = go (is_larger net.links l.risk.0) refl
  where
    go : (b : Bool) → is_larger net.links l.risk.0 ≡ b → has_float (link_data net l) ≡ false
    go true e = rw e refl
    go false e = rw e refl

pub labels_plain : (net : Net) → has_float (labels_data net) ≡ false
labels_plain net = rw (names_plain (labels_in Ip net.classes net.labels), names_plain (labels_in Mpls net.classes net.labels), names_plain (labels_in Smpls net.classes net.labels)) refl

pub network_plain : (net : Net) → has_float (network_data net) ≡ false
network_plain net = rw (labels_plain net, names_plain net.routers, list_plain (link_data net) net.links (link_plain net), list_plain (row_data net) net.rows (row_plain net)) refl

-- bytes that are the compact text of a value that is a network's are the network's text
pub text_is : (net : Net) (d : Data) (bytes : List ℕ) → d ≡ network_data net → (has_float d ≡ false → bytes ≡ compact_text d) → bytes ≡ text_of net
unfolding text_of
text_is net d bytes is made = made (ap has_float is ∙ network_plain net) ∙ ap compact_text is
