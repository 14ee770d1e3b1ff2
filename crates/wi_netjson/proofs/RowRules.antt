-- What is read of a table breaks no rule of the network.
use Rattle.std.proofs.Common.{◌≡◌, ℕ, ◌+◌, ◌<◌, Bool, true, false, nat_lt, nat_le, List, [], ◌∷◌, ◌++◌, length, slice_get, position, Option, Some, None, Result, Ok, Err, refl, sym, ap, ◌∙◌, arith, length-append}
use Rattle.std.specs.Prelude.{is_none, codes}
use Rattle.std.specs.List.{list_all}
use Rattle.std.specs.Str.{bytes_eq}
use Rattle.std.proofs.lemmas.Bool.{lt-ltb, le-leb, ltb-true, leb-true}
use Rattle.serde_json.specs.Data.{Data, Items, no_items, item}
use Rattle.serde_json.specs.Find.{get, as_str, as_array}
use Rattle.serde_json.specs.Events.{items_len}
use Rattle.wi_labels.specs.declared.label.Label.{Label}
use Rattle.wi_labels.specs.declared.ops.Op.{Op}
use Rattle.wi_labels.specs.declared.ops.Op.TheVariants.{Swap, Push, Pop}
use Rattle.wi_labels.specs.Header.{Entry}
use Rattle.wi_net.specs.declared.parts.Link.{Link}
use Rattle.wi_net.specs.declared.parts.LinkId.{LinkId}
use Rattle.wi_net.specs.declared.parts.RouterId.{RouterId}
use Rattle.wi_net.specs.declared.parts.Member.{Member as Way}
use Rattle.wi_net.specs.Tables.{is_row, group_members, row_members}
use Rattle.wi_net.specs.Net.{Net}
use Rattle.wi_net.specs.Finding.{find_router, find_label, find_out, find_in}
use Rattle.wi_net.specs.Network.{op_known, leaves}
use Rattle.wi_net.specs.Builder.{◌>>=◌, Draft, with_row, member_rules, members_rules, group_rules, groups_rules, add_table, found_or}
use Rattle.wi_net.proofs.KeptLists.{all_push, step_held, rule_held, found_held, given_is}
use Rattle.wi_net.proofs.KeptLists as kept
use Rattle.wi_net.proofs.TableLemmas.{group_members_push}
use Rattle.wi_netjson.specs.declared.fault.Place.{Place}
use Rattle.wi_netjson.specs.declared.fault.Place.TheVariants.{Operation, Member, MemberPart, Group, TablePart}
use Rattle.wi_netjson.specs.declared.fault.MemberPart.TheVariants as way
use Rattle.wi_netjson.specs.declared.fault.TablePart.TheVariants as table
use Rattle.wi_netjson.specs.declared.fault.NetFault.{NetFault}
use Rattle.wi_netjson.specs.declared.fault.NetFault.TheVariants.{UnknownLabel, BadOperation, OverLimit, UnknownInterface, UnknownRouter, RepeatedTable, EmptyGroup}
use Rattle.wi_netjson.specs.Reading.{text, list, object, each}
use Rattle.wi_netjson.specs.Operations.{labelled, one_word, two_words, operation_of, operation_at}
use Rattle.wi_netjson.specs.Tables.{way_at, member_at, group_members_at, group_at, table_ends}
use Rattle.wi_netjson.proofs.Held.{each_keeps, each_counts}
use Rattle.wi_netjson.proofs.FoundLemmas.{out_leaves, in_reaches, label_within, labelled_known}

-- a list's step is an element's, put last
put_last : {A : Type 0} (one : Result A NetFault) (before out : List A) → (one >>= λ x. Ok (before ++ x ∷ [])) ≡ Ok out → (x : A) × (one ≡ Ok x) × (out ≡ before ++ x ∷ [])
put_last one before out e =
    let h = step_held one (λ x. Ok (before ++ x ∷ [])) out e in
    (h.0, h.1, sym (given_is (before ++ h.0 ∷ []) out h.2))

-- one word has no label
one_known : (net : Net) (place : Place) (o : Option (List ℕ)) (op : Op) → one_word place o ≡ Ok op → op_known net op ≡ true
one_known net place (Some word) op e = go (bytes_eq word (codes "pop")) refl
  where
    go : (b : Bool) → bytes_eq word (codes "pop") ≡ b → op_known net op ≡ true
    go true is =
        let same : Pop ≡ op = given_is Pop op (rw is at e) in
        ap (op_known net) (sym same)
    go false is = let none : (let r : Result Op NetFault = Err (BadOperation place) in r ≡ Ok op) = rw is at e in cc
one_known net place None op e = cc

-- an operation that was made of a label
made_of : (net : Net) (place : Place) (name : List ℕ) (make : Entry → Op) (op : Op) → (found_or (UnknownLabel place) (labelled net name) >>= λ l. Ok (make l)) ≡ Ok op → (l : Entry) × (labelled net name ≡ Some l) × (op ≡ make l)
made_of net place name make op e =
    let h = found_held (UnknownLabel place) (labelled net name) (λ l. Ok (make l)) op e in
    (h.0, h.1, sym (given_is (make h.0) op h.2))

-- two words have a label that is known with its class
two_known : (net : Net) (place : Place) (o p : Option (List ℕ)) (op : Op) → two_words net place o p ≡ Ok op → op_known net op ≡ true
two_known net place (Some word) (Some name) op e = go (bytes_eq word (codes "swap")) (bytes_eq word (codes "push")) refl refl
  where
    go : (b c : Bool) → bytes_eq word (codes "swap") ≡ b → bytes_eq word (codes "push") ≡ c → op_known net op ≡ true
    go true c is also =
        let h = made_of net place name (λ l. Swap l.0 l.1) op (rw is at e) in
        ap (op_known net) h.2 ∙ labelled_known net name h.0 h.1
    go false true is also =
        let h = made_of net place name (λ l. Push l.0 l.1) op (rw (is, also) at e) in
        ap (op_known net) h.2 ∙ labelled_known net name h.0 h.1
    go false false is also = let none : (let r : Result Op NetFault = Err (BadOperation place) in r ≡ Ok op) = rw (is, also) at e in cc
two_known net place (Some word) None op e = cc
two_known net place None p op e = cc

operation_known : (net : Net) (place : Place) (o : Option Items) (op : Op) → operation_of net place o ≡ Ok op → op_known net op ≡ true
operation_known net place (Some no_items) op e = cc
operation_known net place (Some (item word no_items)) op e = one_known net place (as_str word) op e
operation_known net place (Some (item word (item name no_items))) op e = two_known net place (as_str word) (as_str name) op e
operation_known net place (Some (item word (item name (item d ds)))) op e = cc
operation_known net place None op e = cc

-- all labels of the operations that were read are known
ops_known : (net : Net) (i j m : ℕ) (items : Items) (ops : List Op) → each (operation_at net i j m) [] 0 items ≡ Ok ops → (list_all (op_known net) ops ≡ true) × (length ops ≡ items_len items)
ops_known net i j m items ops e =
    let all = each_keeps (operation_at net i j m) (λ before. list_all (op_known net) before ≡ true) one items [] 0 ops refl e in
    let count = each_counts (operation_at net i j m) (λ before. length before) longer items [] 0 ops e in
    (all, omega (arith, count))
  where
    one : (before : List Op) (o : ℕ) (d : Data) (next : List Op) → list_all (op_known net) before ≡ true → operation_at net i j m before o d ≡ Ok next → list_all (op_known net) next ≡ true
    one before o d next here step =
        let h = put_last (operation_of net (Operation i j m o) (as_array d)) before next step in
        ap (list_all (op_known net)) h.2 ∙ all_push (op_known net) before h.0 here (operation_known net (Operation i j m o) (as_array d) h.0 h.1)

    longer : (before : List Op) (o : ℕ) (d : Data) (next : List Op) → operation_at net i j m before o d ≡ Ok next → length next ≡ length before + 1
    longer before o d next step =
        let h = put_last (operation_of net (Operation i j m o) (as_array d)) before next step in
        ap length h.2 ∙ length-append before (h.0 ∷ [])

-- a member that fits breaks no rule
member_fits : (net : Net) (router : RouterId) (n : ℕ) (link : LinkId) (ops : List Op) → nat_lt n 400000 ≡ true → leaves net router link ≡ true → nat_le (length ops) 8 ≡ true → list_all (op_known net) ops ≡ true → member_rules net router n (record { link = link; ops = ops }) ≡ Ok (n + 1)
unfolding member_rules
member_fits net router n link ops few out eight known = rw (few, out, eight, known) refl

-- a member that was read breaks no rule
way_rules : (net : Net) (router : RouterId) (n i j m : ℕ) (d : Data) (member : Way) → way_at net router n i j m d ≡ Ok member → member_rules net router n member ≡ Ok (n + 1)
unfolding way_at
way_rules net router n i j m d member e =
    let o = step_held (object (Member i j m) (Some d)) _ member e in
    let out = step_held (text (MemberPart i j m way.Out) (get (codes "out") o.0)) _ member o.2 in
    let items = step_held (list (MemberPart i j m way.Ops) (get (codes "ops") o.0)) _ member out.2 in
    let few = rule_held (OverLimit (Member i j m) 400000) (nat_lt n 400000) _ member items.2 in
    let link = found_held (UnknownInterface (MemberPart i j m way.Out)) (find_out net router out.0) _ member few.1 in
    let short = rule_held (OverLimit (MemberPart i j m way.Ops) 8) (nat_le (0 + items_len items.0) 8) _ member link.2 in
    let ops = step_held (each (operation_at net i j m) [] 0 items.0) _ member short.1 in
    let known = ops_known net i j m items.0 ops.0 ops.1 in
    let made : (let way : Way = record { link = link.0; ops = ops.0 } in way ≡ member) = given_is (record { link = link.0; ops = ops.0 }) member ops.2 in
    let leaves_is = out_leaves net router out.0 link.0 link.1 in
    let eight : nat_le (length ops.0) 8 ≡ true = le-leb (length ops.0) 8 (omega (arith, known.1, leb-true _ _ short.0)) in
    ap (member_rules net router n) (sym made) ∙ member_fits net router n link.0 ops.0 few.0 leaves_is eight known.0

-- one member more
members_push : (net : Net) (r : RouterId) (n k next : ℕ) (ms : List Way) (m : Way) → members_rules net r n ms ≡ Ok k → member_rules net r k m ≡ Ok next → members_rules net r n (ms ++ m ∷ []) ≡ Ok next
members_push net r n k next [] m e here =
    let same : n ≡ k = kept.given_is n k e in
    let moved : member_rules net r n m ≡ Ok next = rw same here in
    rw moved refl
members_push net r n k next (x ∷ ms) m e here =
    let first = kept.step_held (member_rules net r n x) (λ i. members_rules net r i ms) k e in
    rw first.1 (members_push net r first.0 k next ms m first.2 here)

-- the members of a group that was read break no rule, and are as many as its items
members_rules_of : (net : Net) (router : RouterId) (n i j : ℕ) (items : Items) (ms : List Way) → each (member_at net router n i j) [] 0 items ≡ Ok ms → (members_rules net router n ms ≡ Ok (n + length ms)) × (length ms ≡ items_len items)
members_rules_of net router n i j items ms e =
    let start : n ≡ n + 0 = omega arith in
    let all = each_keeps (member_at net router n i j) (λ before. members_rules net router n before ≡ Ok (n + length before)) one items [] 0 ms (ap Ok start) e in
    let count = each_counts (member_at net router n i j) (λ before. length before) longer items [] 0 ms e in
    (all, omega (arith, count))
  where
    one : (before : List Way) (m : ℕ) (d : Data) (next : List Way) → members_rules net router n before ≡ Ok (n + length before) → member_at net router n i j before m d ≡ Ok next → members_rules net router n next ≡ Ok (n + length next)
    one before m d next here step =
        let h = put_last (way_at net router (n + length before) i j m d) before next step in
        let count : n + length before + 1 ≡ n + length next = omega (arith, ap length h.2, length-append before (h.0 ∷ [])) in
        ap (members_rules net router n) h.2 ∙ members_push net router n (n + length before) (n + length before + 1) before h.0 here (way_rules net router (n + length before) i j m d h.0 h.1) ∙ ap Ok count

    longer : (before : List Way) (m : ℕ) (d : Data) (next : List Way) → member_at net router n i j before m d ≡ Ok next → length next ≡ length before + 1
    longer before m d next step =
        let h = put_last (way_at net router (n + length before) i j m d) before next step in
        ap length h.2 ∙ length-append before (h.0 ∷ [])

-- a group that was read breaks no rule
group_rules_of : (net : Net) (router : RouterId) (n i j : ℕ) (d : Data) (group : List Way) → group_members_at net router n i j d ≡ Ok group → group_rules net router n group ≡ Ok (n + length group)
unfolding group_members_at group_rules
group_rules_of net router n i j d group e =
    let items = step_held (list (Group i j) (Some d)) _ group e in
    let some = rule_held (EmptyGroup (Group i j)) (nat_lt 0 (items_len items.0)) _ group items.2 in
    let rest = members_rules_of net router n i j items.0 group some.1 in
    let more : nat_lt 0 (length group) ≡ true = lt-ltb 0 (length group) (omega (arith, rest.1, ltb-true 0 _ some.0)) in
    rw more rest.0

-- one group more
groups_push : (net : Net) (r : RouterId) (n k next : ℕ) (gs : List (List Way)) (g : List Way) → groups_rules net r n gs ≡ Ok k → group_rules net r k g ≡ Ok next → groups_rules net r n (gs ++ g ∷ []) ≡ Ok next
groups_push net r n k next [] g e here =
    let same : n ≡ k = kept.given_is n k e in
    let moved : group_rules net r n g ≡ Ok next = rw same here in
    rw moved refl
groups_push net r n k next (x ∷ gs) g e here =
    let first = kept.step_held (group_rules net r n x) (λ i. groups_rules net r i gs) k e in
    rw first.1 (groups_push net r first.0 k next gs g first.2 here)

-- the groups of a table that was read break no rule
groups_rules_of : (net : Net) (router : RouterId) (n i : ℕ) (items : Items) (gs : List (List Way)) → each (group_at net router n i) [] 0 items ≡ Ok gs → groups_rules net router n gs ≡ Ok (n + group_members gs)
groups_rules_of net router n i items gs e =
    let start : n ≡ n + 0 = omega arith in
    each_keeps (group_at net router n i) (λ before. groups_rules net router n before ≡ Ok (n + group_members before)) one items [] 0 gs (ap Ok start) e
  where
    one : (before : List (List Way)) (j : ℕ) (d : Data) (next : List (List Way)) → groups_rules net router n before ≡ Ok (n + group_members before) → group_at net router n i before j d ≡ Ok next → groups_rules net router n next ≡ Ok (n + group_members next)
    one before j d next here step =
        let h = put_last (group_members_at net router (n + group_members before) i j d) before next step in
        let count : n + group_members before + length h.0 ≡ n + group_members next = omega (arith, ap group_members h.2, group_members_push before h.0) in
        ap (groups_rules net router n) h.2 ∙ groups_push net router n (n + group_members before) (n + group_members before + length h.0) before h.0 here (group_rules_of net router (n + group_members before) i j d h.0 h.1) ∙ ap Ok count

-- a row that fits breaks no rule
row_fits : (draft : Draft) (link : LinkId) (label : Label) (groups : List (List Way)) (l : Link) (k : ℕ) → nat_lt (length draft.net.rows) 200000 ≡ true → slice_get draft.net.links link.0 ≡ Some l → nat_lt label.0 (length draft.net.labels) ≡ true
    → is_none (position (is_row link label) draft.net.rows) ≡ true → groups_rules draft.net l.to (row_members draft.net.rows) groups ≡ Ok k → add_table draft link label groups ≡ Ok (with_row draft (record { link = link; label = label; groups = groups }))
unfolding add_table
row_fits draft link label groups l k room there known free rules = rw (room, there, known, free, rules) refl

-- a row that was read breaks no rule
pub row_rules : (draft : Draft) (i : ℕ) (at into name : List ℕ) (router : RouterId) (link : LinkId) (label : Label) (so_far : ℕ) (items : Items) (groups : List (List Way)) → length draft.net.rows < 200000
    → table_ends draft.net i at into name ≡ Ok (router, link, label) → so_far ≡ row_members draft.net.rows → each (group_at draft.net router so_far i) [] 0 items ≡ Ok groups
    → add_table draft link label groups ≡ Ok (with_row draft (record { link = link; label = label; groups = groups }))
unfolding table_ends
row_rules draft i at into name router link label so_far items groups few ends count read =
    let r = found_held (UnknownRouter (TablePart i table.At)) (find_router draft.net at) _ (router, link, label) ends in
    let e = found_held (UnknownInterface (TablePart i table.In)) (find_in draft.net r.0 into) _ (router, link, label) r.2 in
    let l = found_held (UnknownLabel (TablePart i table.Label)) (find_label draft.net name) _ (router, link, label) e.2 in
    let new = rule_held (RepeatedTable (TablePart i table.Label)) (is_none (position (is_row e.0 l.0) draft.net.rows)) _ (router, link, label) l.2 in
    let made : (let all : RouterId × LinkId × Label = (r.0, e.0, l.0) in all ≡ (router, link, label)) = given_is (r.0, e.0, l.0) (router, link, label) new.1 in
    let r_is : r.0 ≡ router = ap (λ (x : RouterId × LinkId × Label). x.0) made in
    let e_is : e.0 ≡ link = ap (λ (x : RouterId × LinkId × Label). x.1) made in
    let l_is : l.0 ≡ label = ap (λ (x : RouterId × LinkId × Label). x.2) made in
    let to = in_reaches draft.net r.0 into e.0 e.1 in
    let room : nat_lt (length draft.net.rows) 200000 ≡ true = lt-ltb _ _ few in
    let there : slice_get draft.net.links link.0 ≡ Some to.0 = ap (λ (x : LinkId). slice_get draft.net.links x.0) (sym e_is) ∙ to.1 in
    let known : nat_lt label.0 (length draft.net.labels) ≡ true = ap (λ (x : Label). nat_lt x.0 (length draft.net.labels)) (sym l_is) ∙ label_within draft.net name l.0 l.1 in
    let free : is_none (position (is_row link label) draft.net.rows) ≡ true = ap (λ (x : LinkId). is_none (position (is_row x label) draft.net.rows)) (sym e_is) ∙ ap (λ (x : Label). is_none (position (is_row e.0 x) draft.net.rows)) (sym l_is) ∙ new.0 in
    let read_here : each (group_at draft.net router (row_members draft.net.rows) i) [] 0 items ≡ Ok groups = ap (λ n. each (group_at draft.net router n i) [] 0 items) (sym count) ∙ read in
    let rules = groups_rules_of draft.net router (row_members draft.net.rows) i items groups read_here in
    row_fits draft link label groups to.0 (row_members draft.net.rows + group_members groups) room there known free (ap (λ x. groups_rules draft.net x (row_members draft.net.rows) groups) (to.2 ∙ r_is) ∙ rules)
