-- A network that was written is read as it was, whatever stands beside its members.
use Rattle.std.proofs.Common.{◌≡◌, ℕ, suc, ◌+◌, ◌≤◌, Bool, true, false, nat_le, List, [], ◌∷◌, ◌++◌, map, length, Some, Ok, refl, sym, ap, ◌∙◌, append_assoc, append-nil, lit≤, arith, length-append}
use Rattle.std.specs.Prelude.{is_some, codes}
use Rattle.std.specs.Str.{IsUtf8}
use Rattle.std.proofs.lemmas.Bool.{le-leb}
use Rattle.serde_json.specs.Data.{Data, string, depth, items_depth}
use Rattle.serde_json.specs.Find.{get, as_object}
use Rattle.serde_json.specs.Read.{read, max_depth}
use Rattle.serde_json.specs.View.{items_of}
use Rattle.serde_json.specs.Events.{items_len}
use Rattle.wi_labels.specs.declared.label.Class.{Class}
use Rattle.wi_labels.specs.declared.label.Class.TheVariants.{Mpls, Smpls, Ip}
use Rattle.wi_labels.specs.declared.ops.Op.{Op}
use Rattle.wi_labels.specs.declared.ops.Op.TheVariants.{Swap, Push, Pop}
use Rattle.wi_net.specs.declared.parts.Link.{Link}
use Rattle.wi_net.specs.declared.parts.LinkId.{LinkId}
use Rattle.wi_net.specs.declared.parts.Member.{Member}
use Rattle.wi_net.specs.declared.parts.TableRow.{TableRow}
use Rattle.wi_net.specs.Names.{are_names}
use Rattle.wi_net.specs.Net.{Net}
use Rattle.wi_net.specs.Network.{IsNetwork}
use Rattle.wi_net.specs.Builder.{Draft, empty}
use Rattle.wi_netjson.specs.Reading.{each}
use Rattle.wi_netjson.specs.Routers.{routers_of}
use Rattle.wi_netjson.specs.Labels.{label_list, labels_of}
use Rattle.wi_netjson.specs.Links.{link_at, links_of}
use Rattle.wi_netjson.specs.Tables.{tables_of}
use Rattle.wi_netjson.specs.File.{has_groups, file_of, network_of}
use Rattle.wi_netjson.specs.Written.{list_of, labels_in, labels_data, is_larger, has_larger, format_of, link_data, op_data, way_data, group_data, row_data, network_data}
use Rattle.wi_netjson.proofs.Json.{json_ok}
use Rattle.wi_netjson.proofs.ReadNames.{len_of_list, with_routers, routers_are_read, with_labels, each_of, labels_are_read, IsByClass, by_class}
use Rattle.wi_netjson.proofs.ReadLinks.{draft_at, LinksRead, links_are_read}
use Rattle.wi_netjson.proofs.ReadTables.{rows_at, tables_are_read}

-- a list that isn't too long, after so many things
few_of : {X : Type 0} (f : X → Data) (xs : List X) (before limit : ℕ) → before + length xs ≤ limit → nat_le (before + items_len (items_of (map f xs))) limit ≡ true
few_of f xs before limit le = le-leb (before + items_len (items_of (map f xs))) limit (omega (arith, len_of_list f xs, le))

-- a value has the members of a network's
pub record HasNetwork (net : Net) (d : Data) : Type 0 where
  pub shape : is_some (as_object d) ≡ true
  pub format : get (codes "format") d ≡ Some (string (format_of net))
  pub labels : get (codes "labels") d ≡ Some (labels_data net)
  pub links : get (codes "links") d ≡ Some (list_of (link_data net) net.links)
  pub routers : get (codes "routers") d ≡ Some (list_of string net.routers)
  pub tables : get (codes "tables") d ≡ Some (list_of (row_data net) net.rows)

-- the value of the network has
pub has_network : (net : Net) → HasNetwork net (network_data net)
has_network net = record { shape = refl; format = refl; labels = refl; links = refl; routers = refl; tables = refl }

format_is_read : (net : Net) → has_groups (Some (string (format_of net))) ≡ Ok (has_larger net.links)
unfolding has_groups
format_is_read net = go (has_larger net.links) refl
  where
    go : (b : Bool) → has_larger net.links ≡ b → has_groups (Some (string (format_of net))) ≡ Ok (has_larger net.links)
    go true e = rw e refl
    go false e = rw e refl

routers_read : (net : Net) (d : Data) → IsNetwork net → HasNetwork net d → routers_of empty d ≡ Ok (with_routers empty net.routers)
unfolding routers_of
routers_read net d k has = rw (has.routers, few_of string net.routers 0 10000 (let few = k.few_routers in omega arith)) (routers_are_read empty [] net.routers 0 k.routers)

list_is_read : (d : Draft) (class : Class) (pre rest post : List (List ℕ)) (classes : List Class) → are_names (pre ++ (rest ++ post)) ≡ true → length pre + length rest ≤ 20000
    → label_list class (with_labels d pre classes) (Some (list_of string rest)) ≡ Ok (with_labels d (pre ++ rest) (classes ++ each_of class rest))
unfolding label_list
list_is_read d class pre rest post classes all few = rw (few_of string rest (length pre) 20000 few) (labels_are_read d class pre rest post classes 0 all)

labels_read : (net : Net) (file : Data) → IsNetwork net → HasNetwork net file → labels_of (with_routers empty net.routers) file ≡ Ok (with_labels (with_routers empty net.routers) net.labels net.classes)
unfolding labels_of
labels_read net file k has = rw (has.labels, first, second, third) (ap (λ names. Ok (with_labels d names ((each_of Mpls m ++ each_of Smpls s) ++ each_of Ip i))) names ∙ ap (λ classes. Ok (with_labels d net.labels classes)) kinds)
  where
    d : Draft
    d = with_routers empty net.routers

    m : List (List ℕ)
    m = labels_in Mpls net.classes net.labels

    s : List (List ℕ)
    s = labels_in Smpls net.classes net.labels

    i : List (List ℕ)
    i = labels_in Ip net.classes net.labels

    by : IsByClass net.classes net.labels
    by = by_class net.classes net.labels k.classes k.in_order

    names : (m ++ s) ++ i ≡ net.labels
    names = append_assoc m s i ∙ sym by.names

    kinds : (each_of Mpls m ++ each_of Smpls s) ++ each_of Ip i ≡ net.classes
    kinds = append_assoc (each_of Mpls m) (each_of Smpls s) (each_of Ip i) ∙ sym by.kinds

    all : are_names (m ++ (s ++ i)) ≡ true
    all = ap are_names (sym by.names) ∙ k.labels

    count : length m + (length s + length i) ≤ 20000
    count = let few = k.few_labels in omega (arith, few, ap length by.names, length-append m (s ++ i), length-append s i)

    first : label_list Mpls d (Some (list_of string m)) ≡ Ok (with_labels d m (each_of Mpls m))
    first = list_is_read d Mpls [] m (s ++ i) [] all (omega (arith, count))

    second : label_list Smpls (with_labels d m (each_of Mpls m)) (Some (list_of string s)) ≡ Ok (with_labels d (m ++ s) (each_of Mpls m ++ each_of Smpls s))
    second = list_is_read d Smpls m s i (each_of Mpls m) all (omega (arith, count))

    whole : are_names ((m ++ s) ++ (i ++ [])) ≡ true
    whole = ap (λ xs. are_names ((m ++ s) ++ xs)) (append-nil i) ∙ ap are_names (append_assoc m s i) ∙ all

    third : label_list Ip (with_labels d (m ++ s) (each_of Mpls m ++ each_of Smpls s)) (Some (list_of string i)) ≡ Ok (with_labels d ((m ++ s) ++ i) ((each_of Mpls m ++ each_of Smpls s) ++ each_of Ip i))
    third = list_is_read d Ip (m ++ s) i [] (each_of Mpls m ++ each_of Smpls s) whole (omega (arith, count, length-append m s))

-- the links, and what the builder then knows
links_read : (net : Net) → IsNetwork net → LinksRead (has_larger net.links) net (draft_at net [] [] [] []) 0 net.links
links_read net k = links_are_read net (has_larger net.links) net.links [] 0 0 [] [] k refl refl k.in_turn (record { firsts_are = refl; named_are = refl })

links_of_read : (net : Net) (d : Data) (named : List (List ℕ)) (firsts : List LinkId) → IsNetwork net → HasNetwork net d → each (link_at (has_larger net.links)) (draft_at net [] [] [] []) 0 (items_of (map (link_data net) net.links)) ≡ Ok (draft_at net net.interfaces net.links named firsts)
    → links_of (has_larger net.links) (draft_at net [] [] [] []) d ≡ Ok (rows_at net named firsts [])
unfolding links_of
links_of_read net d named firsts k has all = rw (has.links, few_of (link_data net) net.links 0 20000 (let few = k.few_links in omega arith)) all

tables_read : (net : Net) (d : Data) (named : List (List ℕ)) (firsts : List LinkId) → IsNetwork net → HasNetwork net d → tables_of (rows_at net named firsts []) d ≡ Ok (rows_at net named firsts net.rows)
unfolding tables_of
tables_read net d named firsts k has = rw (has.tables, few_of (row_data net) net.rows 0 200000 (let few = k.few_rows in omega arith)) (tables_are_read net named firsts net.rows [] 0 k refl)

-- a value means a network
record Means (net : Net) (d : Data) : Type 0 where
  draft : Draft
  read : file_of empty d ≡ Ok draft
  same : draft.net ≡ net

network_is_read : (net : Net) (d : Data) → IsNetwork net → HasNetwork net d → Means net d
unfolding file_of
network_is_read net d k has =
    record {
      draft = rows_at net links.named links.firsts net.rows;
      read = rw (has.shape, has.format, format_is_read net, routers_read net d k has, labels_read net d k has, links_of_read net d links.named links.firsts k has links.read) (tables_read net d links.named links.firsts k has);
      same = refl;
    }
  where
    links : LinksRead (has_larger net.links) net (draft_at net [] [] [] []) 0 net.links
    links = links_read net k

-- ---- how deep the value is

items_flat : {X : Type 0} (f : X → Data) (xs : List X) (n : ℕ) → ((x : X) → depth (f x) ≤ n) → items_depth (items_of (map f xs)) ≤ n
items_flat f [] n flat = omega arith
items_flat f (x ∷ xs) n flat = let here = flat x in let rest = items_flat f xs n flat in omega (arith, here, rest)

pub list_flat : {X : Type 0} (f : X → Data) (xs : List X) (n : ℕ) → ((x : X) → depth (f x) ≤ n) → depth (list_of f xs) ≤ suc n
list_flat f xs n flat = let all = items_flat f xs n flat in omega (arith, all)

pub names_flat : (names : List (List ℕ)) → depth (list_of string names) ≤ 1
names_flat names = list_flat string names 0 (λ s. let z : 0 ≤ 0 = omega arith in z)

op_flat : (net : Net) (op : Op) → depth (op_data net op) ≤ 1
op_flat net (Swap l c) = lit≤ tt
op_flat net (Push l c) = lit≤ tt
op_flat net Pop = lit≤ tt

way_flat : (net : Net) (m : Member) → depth (way_data net m) ≤ 3
way_flat net m = let ops = list_flat (op_data net) m.ops 1 (op_flat net) in omega (arith, ops)

pub row_flat : (net : Net) (row : TableRow) → depth (row_data net row) ≤ 6
row_flat net row = let groups = list_flat (group_data net) row.groups 4 (λ g. list_flat (way_data net) g 3 (way_flat net)) in omega (arith, groups)

pub link_flat : (net : Net) (l : Link) → depth (link_data net l) ≤ 1
link_flat net l = go (is_larger net.links l.risk.0) refl
  where
    go : (b : Bool) → is_larger net.links l.risk.0 ≡ b → depth (link_data net l) ≤ 1
    go true e = rw e (lit≤ tt)
    go false e = rw e (lit≤ tt)

pub labels_flat : (net : Net) → depth (labels_data net) ≤ 2
labels_flat net =
    let mpls = names_flat (labels_in Mpls net.classes net.labels) in
    let smpls = names_flat (labels_in Smpls net.classes net.labels) in
    let ip = names_flat (labels_in Ip net.classes net.labels) in
    omega (arith, mpls, smpls, ip)

pub network_flat : (net : Net) → depth (network_data net) ≤ max_depth
network_flat net =
    let routers = names_flat net.routers in
    let labels = labels_flat net in
    let links = list_flat (link_data net) net.links 1 (link_flat net) in
    let tables = list_flat (row_data net) net.rows 6 (row_flat net) in
    omega (arith, routers, labels, links, tables)

-- bytes that read as a flat value with a network's members mean the network
pub bytes_mean : (net : Net) (made d : Data) (bytes : List ℕ) → IsNetwork net → HasNetwork net made → depth made ≤ max_depth → d ≡ made → IsUtf8 bytes → (depth d ≤ max_depth → read bytes ≡ Some d) → length bytes ≤ 67108864 → network_of bytes ≡ Ok net
unfolding network_of
bytes_mean net made d bytes k has flat is utf8 reads few = rw (le-leb (length bytes) 67108864 few, json_ok bytes made (utf8, reads (rw is flat) ∙ ap Some is), means.read) (ap Ok means.same)
  where
    means : Means net made
    means = network_is_read net made k has
