-- Tables that were written are read as they were.
use Rattle.std.proofs.Common.{◌≡◌, ℕ, ◌+◌, ◌<◌, ◌≤◌, Bool, true, false, ◌&&◌, ◌==◌, nat_lt, nat_le, List, [], ◌∷◌, ◌++◌, map, length, slice_get, position, Some, None, Result, Ok, refl, sym, ap, ◌∙◌, append_assoc, append-nil, arith, length-append}
use Rattle.std.specs.Prelude.{is_none}
use Rattle.std.specs.Option.{option_map_or}
use Rattle.std.specs.List.{list_all}
use Rattle.std.specs.Str.{bytes_eq}
use Rattle.std.proofs.lemmas.Bool.{and_parts, ltb-true, leb-true, lt-ltb, le-leb, eqb-true}
use Rattle.std.proofs.lemmas.Option.{slice_get_within}
use Rattle.serde_json.specs.Find.{as_array}
use Rattle.serde_json.specs.View.{items_of}
use Rattle.serde_json.specs.Events.{items_len}
use Rattle.wi_net.specs.Ends.{are_ends_apart}
use Rattle.wi_labels.specs.declared.label.Class.{Class}
use Rattle.wi_labels.specs.declared.label.Class.TheVariants.{Mpls, Smpls, Ip}
use Rattle.wi_labels.specs.declared.label.Label.{Label}
use Rattle.wi_labels.specs.declared.ops.Op.{Op}
use Rattle.wi_labels.specs.declared.ops.Op.TheVariants.{Swap, Push, Pop}
use Rattle.wi_labels.specs.Header.{same_class}
use Rattle.wi_net.specs.declared.parts.Link.{Link}
use Rattle.wi_net.specs.declared.parts.LinkId.{LinkId}
use Rattle.wi_net.specs.declared.parts.RouterId.{RouterId}
use Rattle.wi_net.specs.declared.parts.Member.{Member as Way}
use Rattle.wi_net.specs.declared.parts.TableRow.{TableRow}
use Rattle.wi_net.specs.Names.{are_names}
use Rattle.wi_net.specs.Tables.{is_row, are_rows_apart, group_members, row_members}
use Rattle.wi_net.specs.Net.{Net, label_known}
use Rattle.wi_net.specs.Finding.{find_router, find_label, find_out, find_in}
use Rattle.wi_net.specs.Network.{IsNetwork, op_known, leaves, is_member_at, is_group_at}
use Rattle.wi_net.specs.Builder.{◌>>=◌, Draft}
use Rattle.wi_net.proofs.KeptLists.{nothing_is, there_parts}
use Rattle.wi_net.proofs.TableLemmas.{group_members_push}
use Rattle.wi_netjson.specs.declared.fault.Place.{Place}
use Rattle.wi_netjson.specs.declared.fault.Place.TheVariants.{Operation}
use Rattle.wi_netjson.specs.declared.fault.NetFault.{NetFault}
use Rattle.wi_netjson.specs.Reading.{each}
use Rattle.wi_netjson.specs.Operations.{labelled, operation_of, operation_at}
use Rattle.wi_netjson.specs.Tables.{way_at, member_at, group_members_at, group_at, table_ends, table_at}
use Rattle.wi_netjson.specs.Written.{name_at, label_name, target_name, out_name, in_name, op_data, way_data, group_data, row_data}
use Rattle.wi_net.proofs.PlaceLemmas.{IsApart, before, found_at}
use Rattle.wi_net.proofs.ApartLemmas.{names_apart, same_out, same_in, outs_apart, ins_apart, test_flip, test_self}
use Rattle.wi_netjson.proofs.ReadNames.{len_of_list}
use Rattle.wi_netjson.proofs.ReadLinks.{name_of, router_is_found}
use Rattle.wi_net.proofs.EndLemmas.{has_ends}
use Rattle.wi_netjson.proofs.WrittenLemmas.{row_in}

-- the network with some rows
abbrev pub net_at : Net → List TableRow → Net
net_at net rows = record { routers = net.routers; labels = net.labels; classes = net.classes; interfaces = net.interfaces; links = net.links; rows = rows }

abbrev pub rows_at : Net → List (List ℕ) → List LinkId → List TableRow → Draft
rows_at net named firsts rows = record { net = net_at net rows; named = named; firsts = firsts }

class_is : (c d : Class) → same_class c d ≡ true → c ≡ d
class_is Mpls Mpls e = refl
class_is Mpls Smpls e = cc
class_is Mpls Ip e = cc
class_is Smpls Mpls e = cc
class_is Smpls Smpls e = refl
class_is Smpls Ip e = cc
class_is Ip Mpls e = cc
class_is Ip Smpls e = cc
class_is Ip Ip e = refl

-- the label of a name
pub label_is_found : (net : Net) (rows : List TableRow) (l : Label) → IsNetwork net → l.0 < length net.labels → find_label (net_at net rows) (label_name net l) ≡ Some l
label_is_found net rows l k lt =
    let there = name_of net.labels l.0 k.labels lt in
    rw (found_at bytes_eq are_names names_apart net.labels l.0 (label_name net l) k.labels there.at) refl

-- a label with its class
labelled_is : (net : Net) (rows : List TableRow) (l : Label) (c : Class) → IsNetwork net → label_known net.classes (l, c) ≡ true → labelled (net_at net rows) (label_name net l) ≡ Some (l, c)
labelled_is net rows l c k known =
    let found = there_parts (λ class. same_class class c) (slice_get net.classes l.0) known in
    let within = slice_get_within net.classes l.0 found.0 found.1 in
    let lt : l.0 < length net.labels = let len = k.classes in omega (arith, within, len) in
    let class : slice_get net.classes l.0 ≡ Some c = found.1 ∙ ap Some (class_is found.0 c found.2) in
    rw (label_is_found net rows l k lt, class) refl

-- an operation
op_is_read : (net : Net) (rows : List TableRow) (place : Place) (op : Op) → IsNetwork net → op_known net op ≡ true → operation_of (net_at net rows) place (as_array (op_data net op)) ≡ Ok op
op_is_read net rows place (Swap l c) k known = rw (labelled_is net rows l c k known) refl
op_is_read net rows place (Push l c) k known = rw (labelled_is net rows l c k known) refl
op_is_read net rows place Pop k known = refl

-- operations
ops_are_read : (net : Net) (rows : List TableRow) (i j m : ℕ) (rest ops : List Op) (o : ℕ) → IsNetwork net → list_all (op_known net) rest ≡ true → each (operation_at (net_at net rows) i j m) ops o (items_of (map (op_data net) rest)) ≡ Ok (ops ++ rest)
ops_are_read net rows i j m [] ops o k all = ap Ok (sym (append-nil ops))
ops_are_read net rows i j m (op ∷ rest) ops o k all =
    let parts = and_parts (op_known net op) (list_all (op_known net) rest) all in
    let go : Result Op NetFault → Result (List Op) NetFault = λ r. (r >>= λ x. Ok (ops ++ x ∷ [])) >>= λ next. each (operation_at (net_at net rows) i j m) next (o + 1) (items_of (map (op_data net) rest)) in
    ap go (op_is_read net rows (Operation i j m o) op k parts.0) ∙ ops_are_read net rows i j m rest (ops ++ op ∷ []) (o + 1) k parts.1 ∙ ap Ok (append_assoc ops (op ∷ []) rest)

-- the link that leaves a router by the name of its out interface
pub out_is_found : (net : Net) (rows : List TableRow) (e : LinkId) (l : Link) → IsNetwork net → slice_get net.links e.0 ≡ Some l → find_out (net_at net rows) l.from (out_name net e) ≡ Some e
out_is_found net rows e l k at =
    let ends = has_ends net e.0 l k at in
    let there = name_of net.interfaces l.out_if.0 k.interfaces ends.out_if in
    rw (at, found_at bytes_eq are_names names_apart net.interfaces l.out_if.0 (name_at net.interfaces l.out_if.0) k.interfaces there.at, found_at same_out are_ends_apart outs_apart net.links e.0 l k.ends at) refl

-- and the one that reaches a router by the name of its in interface
in_is_found : (net : Net) (rows : List TableRow) (e : LinkId) (l : Link) → IsNetwork net → slice_get net.links e.0 ≡ Some l → find_in (net_at net rows) l.to (in_name net e) ≡ Some e
in_is_found net rows e l k at =
    let ends = has_ends net e.0 l k at in
    let there = name_of net.interfaces l.in_if.0 k.interfaces ends.in_if in
    rw (at, found_at bytes_eq are_names names_apart net.interfaces l.in_if.0 (name_at net.interfaces l.in_if.0) k.interfaces there.at, found_at same_in are_ends_apart ins_apart net.links e.0 l k.ends at) refl

router_of : ℕ → RouterId
router_of n = record { 0 = n }

-- a member
way_is_read : (net : Net) (rows : List TableRow) (router : RouterId) (n i j m : ℕ) (w : Way) → IsNetwork net → n < 400000 → is_member_at net router w ≡ true → way_at (net_at net rows) router n i j m (way_data net w) ≡ Ok w
unfolding way_at router_of
way_is_read net rows router n i j m w k few member = rw (room, found, short, ops) refl
  where
    parts : (leaves net router w.link ≡ true) × ((nat_le (length w.ops) 8 && list_all (op_known net) w.ops) ≡ true)
    parts = and_parts (leaves net router w.link) (nat_le (length w.ops) 8 && list_all (op_known net) w.ops) member

    of_ops : (nat_le (length w.ops) 8 ≡ true) × (list_all (op_known net) w.ops ≡ true)
    of_ops = and_parts (nat_le (length w.ops) 8) (list_all (op_known net) w.ops) parts.1

    there : (l : Link) × (slice_get net.links w.link.0 ≡ Some l) × ((l.from.0 == router.0) ≡ true)
    there = there_parts (λ (l : Link). l.from.0 == router.0) (slice_get net.links w.link.0) parts.0

    room : nat_lt n 400000 ≡ true
    room = lt-ltb n 400000 few

    from : (there.0).from ≡ router
    from = ap router_of (eqb-true (there.0).from.0 router.0 there.2)

    found : find_out (net_at net rows) router (out_name net w.link) ≡ Some w.link
    found = ap (λ r. find_out (net_at net rows) r (out_name net w.link)) (sym from) ∙ out_is_found net rows w.link there.0 k there.1

    short : nat_le (0 + items_len (items_of (map (op_data net) w.ops))) 8 ≡ true
    short = le-leb (0 + items_len (items_of (map (op_data net) w.ops))) 8 (omega (arith, len_of_list (op_data net) w.ops, leb-true (length w.ops) 8 of_ops.0))

    ops : each (operation_at (net_at net rows) i j m) [] 0 (items_of (map (op_data net) w.ops)) ≡ Ok w.ops
    ops = ops_are_read net rows i j m w.ops [] 0 k of_ops.1

-- the members of a group
ways_are_read : (net : Net) (rows : List TableRow) (router : RouterId) (n i j : ℕ) (rest ways : List Way) (m : ℕ) → IsNetwork net → n + length ways + length rest ≤ 400000 → list_all (is_member_at net router) rest ≡ true
    → each (member_at (net_at net rows) router n i j) ways m (items_of (map (way_data net) rest)) ≡ Ok (ways ++ rest)
ways_are_read net rows router n i j [] ways m k few all = ap Ok (sym (append-nil ways))
ways_are_read net rows router n i j (w ∷ rest) ways m k few all =
    let parts = and_parts (is_member_at net router w) (list_all (is_member_at net router) rest) all in
    let count : length (ways ++ w ∷ []) ≡ length ways + 1 = length-append ways (w ∷ []) in
    let go : Result Way NetFault → Result (List Way) NetFault = λ r. (r >>= λ x. Ok (ways ++ x ∷ [])) >>= λ next. each (member_at (net_at net rows) router n i j) next (m + 1) (items_of (map (way_data net) rest)) in
    ap go (way_is_read net rows router (n + length ways) i j m w k (omega (arith, few)) parts.0) ∙ ways_are_read net rows router n i j rest (ways ++ w ∷ []) (m + 1) k (omega (arith, few, count)) parts.1 ∙ ap Ok (append_assoc ways (w ∷ []) rest)

group_is_read : (net : Net) (rows : List TableRow) (router : RouterId) (n i j : ℕ) (g : List Way) → IsNetwork net → n + length g ≤ 400000 → is_group_at net router g ≡ true → group_members_at (net_at net rows) router n i j (group_data net g) ≡ Ok g
unfolding group_members_at
group_is_read net rows router n i j g k few group =
    let parts = and_parts (nat_lt 0 (length g)) (list_all (is_member_at net router) g) group in
    let some : nat_lt 0 (items_len (items_of (map (way_data net) g))) ≡ true = lt-ltb 0 (items_len (items_of (map (way_data net) g))) (omega (arith, len_of_list (way_data net) g, ltb-true 0 (length g) parts.0)) in
    rw some (ways_are_read net rows router n i j g [] 0 k (omega (arith, few)) parts.1)

-- the groups of a row
groups_are_read : (net : Net) (rows : List TableRow) (router : RouterId) (n i : ℕ) (rest groups : List (List Way)) (j : ℕ) → IsNetwork net → n + group_members groups + group_members rest ≤ 400000 → list_all (is_group_at net router) rest ≡ true
    → each (group_at (net_at net rows) router n i) groups j (items_of (map (group_data net) rest)) ≡ Ok (groups ++ rest)
groups_are_read net rows router n i [] groups j k few all = ap Ok (sym (append-nil groups))
groups_are_read net rows router n i (g ∷ rest) groups j k few all =
    let parts = and_parts (is_group_at net router g) (list_all (is_group_at net router) rest) all in
    let count : group_members (groups ++ g ∷ []) ≡ group_members groups + length g = group_members_push groups g in
    let go : Result (List Way) NetFault → Result (List (List Way)) NetFault = λ r. (r >>= λ x. Ok (groups ++ x ∷ [])) >>= λ next. each (group_at (net_at net rows) router n i) next (j + 1) (items_of (map (group_data net) rest)) in
    ap go (group_is_read net rows router (n + group_members groups) i j g k (omega (arith, few)) parts.0) ∙ groups_are_read net rows router n i rest (groups ++ g ∷ []) (j + 1) k (omega (arith, few, count)) parts.1 ∙ ap Ok (append_assoc groups (g ∷ []) rest)

-- rows are apart
abbrev pub same_row : TableRow → TableRow → Bool
same_row x y = is_row x.link x.label y

rows_apart : IsApart same_row are_rows_apart
rows_apart = record { flip = λ x y e. test_flip x.link.0 y.link.0 x.label.0 y.label.0 e; self = λ x. test_self x.link.0 x.label.0; head = head }
  where
    head : (x : TableRow) (xs : List TableRow) → are_rows_apart (x ∷ xs) ≡ true → (position (same_row x) xs ≡ None) × (are_rows_apart xs ≡ true)
    head x xs all =
        let parts = and_parts (is_none (position (same_row x) xs)) (are_rows_apart xs) all in
        (nothing_is (position (same_row x) xs) parts.0, parts.1)

-- the members of the rows before one, and of it, are no more than all
members_most : (pre post : List TableRow) (row : TableRow) → row_members pre + group_members row.groups ≤ row_members (pre ++ row ∷ post)
members_most [] post row = omega arith
members_most (x ∷ pre) post row = let rest = members_most pre post row in omega (arith, rest)

row_place : (pre post : List TableRow) (row : TableRow) → slice_get (pre ++ row ∷ post) (length pre) ≡ Some row
row_place [] post row = refl
row_place (x ∷ pre) post row = row_place pre post row

-- what a row is of
ends_are_read : (net : Net) (pre post : List TableRow) (row : TableRow) (l : Link) (i : ℕ) → IsNetwork net → net.rows ≡ pre ++ row ∷ post → slice_get net.links row.link.0 ≡ Some l → row.label.0 < length net.labels
    → table_ends (net_at net pre) i (target_name net row.link) (in_name net row.link) (label_name net row.label) ≡ Ok (l.to, row.link, row.label)
unfolding table_ends
ends_are_read net pre post row l i k is at label = rw (target, router, link, label_found, free) refl
  where
    target : target_name net row.link ≡ name_at net.routers l.to.0
    target = rw at refl

    router : find_router (net_at net pre) (name_at net.routers l.to.0) ≡ Some l.to
    router = router_is_found (net_at net pre) l.to k.routers (has_ends net row.link.0 l k at).to

    link : find_in (net_at net pre) l.to (in_name net row.link) ≡ Some row.link
    link = in_is_found net pre row.link l k at

    label_found : find_label (net_at net pre) (label_name net row.label) ≡ Some row.label
    label_found = label_is_found net pre row.label k label

    free : position (is_row row.link row.label) pre ≡ None
    free = before same_row are_rows_apart rows_apart pre post row (ap are_rows_apart (sym is) ∙ k.rows_apart)

row_is_read : (net : Net) (named : List (List ℕ)) (firsts : List LinkId) (pre post : List TableRow) (row : TableRow) (i : ℕ) → IsNetwork net → net.rows ≡ pre ++ row ∷ post → table_at (rows_at net named firsts pre) i (row_data net row) ≡ Ok (rows_at net named firsts (pre ++ row ∷ []))
unfolding table_at
row_is_read net named firsts pre post row i k is = rw (ends, groups) refl
  where
    here : slice_get net.rows (length pre) ≡ Some row
    here = ap (λ xs. slice_get xs (length pre)) is ∙ row_place pre post row

    parts : (nat_lt row.label.0 (length net.labels) ≡ true) × (option_map_or (λ (l : Link). list_all (is_group_at net l.to) row.groups) (slice_get net.links row.link.0) false ≡ true)
    parts = and_parts (nat_lt row.label.0 (length net.labels)) (option_map_or (λ (l : Link). list_all (is_group_at net l.to) row.groups) (slice_get net.links row.link.0) false) (row_in net (length pre) row k here)

    there : (l : Link) × (slice_get net.links row.link.0 ≡ Some l) × (list_all (is_group_at net l.to) row.groups ≡ true)
    there = there_parts (λ (l : Link). list_all (is_group_at net l.to) row.groups) (slice_get net.links row.link.0) parts.1

    ends : table_ends (net_at net pre) i (target_name net row.link) (in_name net row.link) (label_name net row.label) ≡ Ok ((there.0).to, row.link, row.label)
    ends = ends_are_read net pre post row there.0 i k is there.1 (ltb-true row.label.0 (length net.labels) parts.0)

    few : row_members pre + 0 + group_members row.groups ≤ 400000
    few = let most = members_most pre post row in let limit = k.few_members in omega (arith, most, ap row_members is, limit)

    groups : each (group_at (net_at net pre) (there.0).to (row_members pre) i) [] 0 (items_of (map (group_data net) row.groups)) ≡ Ok row.groups
    groups = groups_are_read net pre (there.0).to (row_members pre) i row.groups [] 0 k few there.2

-- tables that were written are read as they were
pub tables_are_read : (net : Net) (named : List (List ℕ)) (firsts : List LinkId) (rest pre : List TableRow) (i : ℕ) → IsNetwork net → net.rows ≡ pre ++ rest → each table_at (rows_at net named firsts pre) i (items_of (map (row_data net) rest)) ≡ Ok (rows_at net named firsts net.rows)
tables_are_read net named firsts [] pre i k is = ap (λ rows. Ok (rows_at net named firsts rows)) (sym (append-nil pre) ∙ sym is)
tables_are_read net named firsts (row ∷ rest) pre i k is =
    let more : net.rows ≡ (pre ++ row ∷ []) ++ rest = is ∙ sym (append_assoc pre (row ∷ []) rest) in
    let go : Result Draft NetFault → Result Draft NetFault = λ r. r >>= λ next. each table_at next (i + 1) (items_of (map (row_data net) rest)) in
    ap go (row_is_read net named firsts pre rest row i k is) ∙ tables_are_read net named firsts rest (pre ++ row ∷ []) (i + 1) k more
