-- What is kept while a network is being built: each call of the builder keeps it.
use Rattle.std.proofs.Common.{◌≡◌, ℕ, ◌+◌, ◌^◌, ◌<◌, ◌≤◌, true, ◌&&◌, ◌⊎◌, inl, inr, nat_lt, List, [], ◌∷◌, ◌++◌, length, position, slice_get, Option, Some, None, Ok, refl, sym, ap, ◌∙◌, arith, length-append}
use Rattle.std.specs.Prelude.{is_none, option_and_then, unwrap_or}
use Rattle.std.specs.List.{list_all}
use Rattle.std.specs.Str.{bytes_eq}
use Rattle.std.proofs.lemmas.Bool.{and_parts, and_from, ltb-true, lt-ltb}
use Rattle.wi_labels.specs.declared.label.Class.{Class}
use Rattle.wi_net.specs.declared.refused.BuildRefused.TheVariants.{Repeated, Unknown, Taken, Limit, BadName}
use Rattle.wi_net.specs.declared.refused.Field.TheVariants as field
use Rattle.wi_net.specs.declared.refused.Limited.TheVariants as limited
use Rattle.wi_net.specs.declared.parts.RouterId.{RouterId}
use Rattle.wi_net.specs.declared.parts.LinkId.{LinkId}
use Rattle.wi_net.specs.declared.parts.Link.{Link}
use Rattle.wi_net.specs.declared.parts.TableRow.{TableRow}
use Rattle.wi_net.specs.Names.{is_name, place, with_name, number_of}
use Rattle.wi_net.specs.Ends.{is_out, is_in}
use Rattle.wi_net.specs.Tables.{is_row, group_members, row_members}
use Rattle.wi_net.specs.Net.{Net}
use Rattle.wi_net.specs.Finding.{find_router, out_place, in_place}
use Rattle.wi_net.specs.Network.{IsNetwork, is_no_later, are_in_order, is_link_of, is_group_at, is_row_of}
use Rattle.wi_net.specs.Builder.{Draft, empty, with_router, with_label, with_new_link, with_row, next_link, first_in, firsts_with, is_group_name, link_ends, add_table, groups_rules}
use Rattle.wi_net.specs.private.Builder.{IsDraft, is_first}
use Rattle.wi_net.proofs.GroupLemmas.{all_weaken}
use Rattle.wi_net.proofs.KeptLists.{nothing_is, all_push, all_get, get_before, place_before, there_from, rule_held, found_held, step_held, given_is}
use Rattle.wi_net.proofs.KeptNames.{names_push, names_with, names_longer, number_within}
use Rattle.wi_net.proofs.KeptLinks.{ends_push, turn_push, out_free, in_free, with_last, first_more, first_new, risks_push, risks_in}
use Rattle.wi_net.proofs.KeptRows.{Grows, links_more, rows_more, rows_apart_push, row_members_push, groups_held}

-- the risk group of each link is named by a link of the network
pub risks_within : (net : Net) → IsNetwork net → list_all (λ (l : Link). nat_lt l.risk.0 (length net.links)) net.links ≡ true
risks_within net k = risks_in net k.risks

-- the empty network keeps it
pub empty_kept : IsDraft empty
empty_kept = record {
  net = record {
    routers = refl;
    labels = refl;
    classes = refl;
    in_order = refl;
    interfaces = refl;
    in_turn = refl;
    links = refl;
    ends = refl;
    near = refl;
    risks = refl;
    rows = refl;
    rows_apart = refl;
    few_routers = omega arith;
    few_labels = omega arith;
    few_links = omega arith;
    few_interfaces = omega arith;
    few_rows = omega arith;
    few_members = omega arith;
  };
  firsts = refl;
}

-- a network with a router more has what it had
router_grows : (d : Draft) (name : List ℕ) → Grows d.net ((with_router d name).net)
router_grows d name = record { routers = omega (arith, length-append d.net.routers (name ∷ [])); labels = omega arith; interfaces = omega arith; classes = λ i c e. e; links = λ i l e. e }

-- a router more
pub router_kept : (d : Draft) (name : List ℕ) → IsDraft d → length d.net.routers < 10000 → is_name name ≡ true → place d.net.routers name ≡ None → IsDraft (with_router d name)
router_kept d name k room good new =
    let g = router_grows d name in
    record {
      net = record {
        routers = names_push d.net.routers name k.net.routers good new;
        labels = k.net.labels;
        classes = k.net.classes;
        in_order = k.net.in_order;
        interfaces = k.net.interfaces;
        in_turn = k.net.in_turn;
        links = links_more d.net ((with_router d name).net) d.net.links g k.net.links;
        ends = k.net.ends;
        near = k.net.near;
        risks = k.net.risks;
        rows = rows_more d.net ((with_router d name).net) d.net.rows g k.net.rows;
        rows_apart = k.net.rows_apart;
        few_routers = omega (arith, length-append d.net.routers (name ∷ []));
        few_labels = k.net.few_labels;
        few_links = k.net.few_links;
        few_interfaces = k.net.few_interfaces;
        few_rows = k.net.few_rows;
        few_members = k.net.few_members;
      };
      firsts = k.firsts;
    }

-- a class more, that isn't before another
order_push : (classes : List Class) (class : Class) → are_in_order classes ≡ true → list_all (λ c. is_no_later c class) classes ≡ true → are_in_order (classes ++ class ∷ []) ≡ true
order_push [] class order later = refl
order_push (c ∷ classes) class order later =
    let parts = and_parts (list_all (λ d. is_no_later c d) classes) (are_in_order classes) order in
    let after = and_parts (is_no_later c class) (list_all (λ b. is_no_later b class) classes) later in
    and_from (list_all (λ d. is_no_later c d) (classes ++ class ∷ [])) (are_in_order (classes ++ class ∷ [])) (all_push (λ d. is_no_later c d) classes class parts.0 after.0) (order_push classes class parts.1 after.1)

-- a network with a label more has what it had
label_grows : (d : Draft) (class : Class) (name : List ℕ) → Grows d.net ((with_label d class name).net)
label_grows d class name = record { routers = omega arith; labels = omega (arith, length-append d.net.labels (name ∷ [])); interfaces = omega arith; classes = λ i c e. get_before d.net.classes (class ∷ []) i c e; links = λ i l e. e }

-- a label more
pub label_kept : (d : Draft) (class : Class) (name : List ℕ) → IsDraft d → list_all (λ c. is_no_later c class) d.net.classes ≡ true → length d.net.labels < 20000 → is_name name ≡ true → place d.net.labels name ≡ None → IsDraft (with_label d class name)
label_kept d class name k later room good new =
    let g = label_grows d class name in
    let count = length-append d.net.labels (name ∷ []) in
    let classes : length d.net.classes ≡ length d.net.labels = k.net.classes in
    record {
      net = record {
        routers = k.net.routers;
        labels = names_push d.net.labels name k.net.labels good new;
        classes = omega (arith, count, classes, length-append d.net.classes (class ∷ []));
        in_order = order_push d.net.classes class k.net.in_order later;
        interfaces = k.net.interfaces;
        in_turn = k.net.in_turn;
        links = links_more d.net ((with_label d class name).net) d.net.links g k.net.links;
        ends = k.net.ends;
        near = k.net.near;
        risks = k.net.risks;
        rows = rows_more d.net ((with_label d class name).net) d.net.rows g k.net.rows;
        rows_apart = k.net.rows_apart;
        few_routers = k.net.few_routers;
        few_labels = omega (arith, count);
        few_links = k.net.few_links;
        few_interfaces = k.net.few_interfaces;
        few_rows = k.net.few_rows;
        few_members = k.net.few_members;
      };
      firsts = k.firsts;
    }

-- what the rules of a new link say
record LinkFits (d : Draft) (out into : List ℕ) (ends : RouterId × RouterId) : Type 0 where
  room : length d.net.links < 20000
  out_named : is_name out ≡ true
  in_named : is_name into ≡ true
  from_is : (ends.0).0 < length d.net.routers
  to_is : (ends.1).0 < length d.net.routers
  out_new : out_place d.net ends.0 out ≡ None
  in_new : in_place d.net ends.1 into ≡ None

-- a router that is found is one of the network's
found_within : (net : Net) (name : List ℕ) (r : RouterId) → find_router net name ≡ Some r → r.0 < length net.routers
found_within net name r e = go (place net.routers name) refl
  where
    make : ℕ → RouterId
    make n = record { 0 = n }

    go : (o : Option ℕ) → place net.routers name ≡ o → r.0 < length net.routers
    go (Some n) is =
        let found : Some (make n) ≡ Some r = rw is at e in
        let same : make n ≡ r = cc in
        let number : n ≡ r.0 = ap (λ (x : RouterId). x.0) same in
        omega (arith, number, place_before (bytes_eq name) net.routers n is)
    go None is = let none : None ≡ Some r = rw is at e in cc

-- the two routers are what the rules gave
ends_are : (d : Draft) (from out to into : List ℕ) (ends : RouterId × RouterId) (f t : RouterId) → length d.net.links < 20000 → is_name out ≡ true → is_name into ≡ true → find_router d.net from ≡ Some f → find_router d.net to ≡ Some t
    → is_none (out_place d.net f out) ≡ true → is_none (in_place d.net t into) ≡ true → (f, t) ≡ ends → LinkFits d out into ends
ends_are d from out to into ends f t room out_named in_named first second out_new in_new same =
    let f_is : f ≡ ends.0 = ap (λ (p : RouterId × RouterId). p.0) same in
    let t_is : t ≡ ends.1 = ap (λ (p : RouterId × RouterId). p.1) same in
    record {
      room = room;
      out_named = out_named;
      in_named = in_named;
      from_is = found_within d.net from ends.0 (first ∙ ap Some f_is);
      to_is = found_within d.net to ends.1 (second ∙ ap Some t_is);
      out_new = ap (λ r. out_place d.net r out) (sym f_is) ∙ nothing_is (out_place d.net f out) out_new;
      in_new = ap (λ r. in_place d.net r into) (sym t_is) ∙ nothing_is (in_place d.net t into) in_new;
    }

-- the rules of a new link held
fits_held : (d : Draft) (from out to into : List ℕ) (group : Option (List ℕ)) (ends : RouterId × RouterId) → link_ends d from out to into group ≡ Ok ends → LinkFits d out into ends
unfolding link_ends
fits_held d from out to into group ends e =
    let room = rule_held (Limit limited.Links 20000) (nat_lt (length d.net.links) 20000) _ ends e in
    let named = rule_held (BadName field.Group) (is_group_name group) _ ends room.1 in
    let outs = rule_held (BadName field.Out) (is_name out) _ ends named.1 in
    let ins = rule_held (BadName field.In) (is_name into) _ ends outs.1 in
    let first = found_held (Unknown field.From) (find_router d.net from) _ ends ins.1 in
    let second = found_held (Unknown field.To) (find_router d.net to) _ ends first.2 in
    let out_new = rule_held (Taken field.Out) (is_none (out_place d.net first.0 out)) _ ends second.2 in
    let in_new = rule_held (Taken field.In) (is_none (in_place d.net second.0 into)) _ ends out_new.1 in
    ends_are d from out to into ends first.0 second.0 (ltb-true _ _ room.0) outs.0 ins.0 first.1 second.1 out_new.0 in_new.0 (given_is (first.0, second.0) ends in_new.1)

-- both ends of a new link are free
pub free_ends : (d : Draft) (from out to into : List ℕ) (group : Option (List ℕ)) (ends : RouterId × RouterId) → IsDraft d → link_ends d from out to into group ≡ Ok ends
    → (position (is_out ends.0 (record { 0 = number_of d.net.interfaces out })) d.net.links ≡ None) × (position (is_in ends.1 (record { 0 = number_of (with_name d.net.interfaces out) into })) d.net.links ≡ None)
free_ends d from out to into group ends k e =
    let fits = fits_held d from out to into group ends e in
    (out_free d.net ends.0 out k.net.links fits.out_new, in_free d.net ends.1 out into k.net.links fits.in_new)

-- the new link
abbrev new_link : Draft → RouterId → List ℕ → RouterId → List ℕ → ℕ → Option (List ℕ) → Link
new_link d from out to into distance group = record { from = from; out_if = record { 0 = number_of d.net.interfaces out }; to = to; in_if = record { 0 = number_of (with_name d.net.interfaces out) into }; distance = distance; risk = first_in d.named d.firsts (next_link d) group }

-- the first of a risk group that has a name, or a link that is alone
first_or_own : (net : Net) (firsts : List LinkId) (i : Option ℕ) (e : LinkId) → list_all (is_first net) firsts ≡ true → e.0 ≡ length net.links
    → ((unwrap_or (option_and_then (λ k. slice_get firsts k) i) e).0 ≡ length net.links) ⊎ (is_first net (unwrap_or (option_and_then (λ k. slice_get firsts k) i) e) ≡ true)
first_or_own net firsts None e all own = inl own
first_or_own net firsts (Some k) e all own = go (slice_get firsts k) refl
  where
    go : (o : Option LinkId) → slice_get firsts k ≡ o → ((unwrap_or (slice_get firsts k) e).0 ≡ length net.links) ⊎ (is_first net (unwrap_or (slice_get firsts k) e) ≡ true)
    go (Some r) is = rw is (inr (all_get (is_first net) firsts k r all is))
    go None is = rw is (inl own)

-- a new link is alone, or in the risk group of its first link
joins_held : (d : Draft) (group : Option (List ℕ)) → list_all (is_first d.net) d.firsts ≡ true → ((first_in d.named d.firsts (next_link d) group).0 ≡ length d.net.links) ⊎ (is_first d.net (first_in d.named d.firsts (next_link d) group) ≡ true)
joins_held d None all = inl refl
joins_held d (Some name) all = first_or_own d.net d.firsts (place d.named name) (next_link d) all refl

-- the first links of the risk groups that have names stay so, and a new link is the first of a new one
firsts_more : (d : Draft) (l : Link) (group : Option (List ℕ)) → list_all (is_first d.net) d.firsts ≡ true → l.risk ≡ first_in d.named d.firsts (next_link d) group → list_all (is_first (with_last d.net l)) (firsts_with d.named d.firsts (next_link d) group) ≡ true
firsts_more d l group all is = go group is
  where
    old : list_all (is_first (with_last d.net l)) d.firsts ≡ true
    old = all_weaken (is_first d.net) (is_first (with_last d.net l)) d.firsts (λ e h. first_more d.net l e h) all

    by_place : (name : List ℕ) (o : Option ℕ) → place d.named name ≡ o → l.risk ≡ first_in d.named d.firsts (next_link d) (Some name) → list_all (is_first (with_last d.net l)) (firsts_with d.named d.firsts (next_link d) (Some name)) ≡ true
    by_place name (Some i) at own = rw at old
    by_place name None at own =
        let alone : l.risk ≡ next_link d = rw at at own in
        rw at (all_push (is_first (with_last d.net l)) d.firsts (next_link d) old (first_new d.net l (next_link d) refl alone))

    go : (g : Option (List ℕ)) → l.risk ≡ first_in d.named d.firsts (next_link d) g → list_all (is_first (with_last d.net l)) (firsts_with d.named d.firsts (next_link d) g) ≡ true
    go None own = old
    go (Some name) own = by_place name (place d.named name) refl own

-- a link more
pub link_kept : (d : Draft) (from out to into : List ℕ) (distance : ℕ) (group : Option (List ℕ)) (ends : RouterId × RouterId) → IsDraft d → distance < 2 ^ 32 → link_ends d from out to into group ≡ Ok ends → IsDraft (with_new_link d ends.0 out ends.1 into distance group)
link_kept d from out to into distance group ends k small e =
    record {
      net = record {
        routers = k.net.routers;
        labels = k.net.labels;
        classes = k.net.classes;
        in_order = k.net.in_order;
        interfaces = names_with (with_name d.net.interfaces out) into (names_with d.net.interfaces out k.net.interfaces fits.out_named) fits.in_named;
        in_turn = turn_push d.net.interfaces out into d.net.links l k.net.in_turn refl refl;
        links = all_push (is_link_of new.net) d.net.links l (links_more d.net new.net d.net.links grows k.net.links) link_is;
        ends = ends_push d.net.links l k.net.ends free.0 free.1;
        near = all_push (λ (m : Link). nat_lt m.distance (2 ^ 32)) d.net.links l k.net.near (lt-ltb distance (2 ^ 32) small);
        risks = risks_push d.net l k.net.risks (joins_held d group k.firsts);
        rows = rows_more d.net new.net d.net.rows grows k.net.rows;
        rows_apart = k.net.rows_apart;
        few_routers = k.net.few_routers;
        few_labels = k.net.few_labels;
        few_links = omega (arith, count, fits.room);
        few_interfaces = omega (arith, count, first_longer.1, second_longer.1, k.net.few_interfaces);
        few_rows = k.net.few_rows;
        few_members = k.net.few_members;
      };
      firsts = firsts_more d l group k.firsts refl;
    }
  where
    l : Link
    l = new_link d ends.0 out ends.1 into distance group

    new : Draft
    new = with_new_link d ends.0 out ends.1 into distance group

    fits : LinkFits d out into ends
    fits = fits_held d from out to into group ends e

    free : (position (is_out ends.0 (record { 0 = number_of d.net.interfaces out })) d.net.links ≡ None) × (position (is_in ends.1 (record { 0 = number_of (with_name d.net.interfaces out) into })) d.net.links ≡ None)
    free = free_ends d from out to into group ends k e

    count : length (d.net.links ++ l ∷ []) ≡ length d.net.links + 1
    count = length-append d.net.links (l ∷ [])

    first_longer : (length d.net.interfaces ≤ length (with_name d.net.interfaces out)) × (length (with_name d.net.interfaces out) ≤ length d.net.interfaces + 1)
    first_longer = names_longer d.net.interfaces out

    second_longer : (length (with_name d.net.interfaces out) ≤ length (with_name (with_name d.net.interfaces out) into)) × (length (with_name (with_name d.net.interfaces out) into) ≤ length (with_name d.net.interfaces out) + 1)
    second_longer = names_longer (with_name d.net.interfaces out) into

    grows : Grows d.net new.net
    grows = record { routers = omega arith; labels = omega arith; interfaces = omega (arith, first_longer.0, second_longer.0); classes = λ i c h. h; links = λ i m h. get_before d.net.links (l ∷ []) i m h }

    link_is : is_link_of new.net l ≡ true
    link_is =
        and_from (nat_lt (ends.0).0 (length d.net.routers) && nat_lt (ends.1).0 (length d.net.routers)) (nat_lt l.out_if.0 (length new.net.interfaces) && nat_lt l.in_if.0 (length new.net.interfaces))
        (and_from (nat_lt (ends.0).0 (length d.net.routers)) (nat_lt (ends.1).0 (length d.net.routers)) (lt-ltb _ _ fits.from_is) (lt-ltb _ _ fits.to_is))
        (and_from (nat_lt l.out_if.0 (length new.net.interfaces)) (nat_lt l.in_if.0 (length new.net.interfaces)) (lt-ltb _ _ (let low = number_within d.net.interfaces out in omega (arith, low, second_longer.0))) (lt-ltb _ _ (number_within (with_name d.net.interfaces out) into)))

-- what the rules of a new row say
record RowFits (d : Draft) (row : TableRow) : Type 0 where
  room : length d.net.rows < 200000
  is : is_row_of d.net row ≡ true
  new : position (is_row row.link row.label) d.net.rows ≡ None
  counted : row_members d.net.rows + group_members row.groups ≤ 400000

-- what the rules gave is what they say
row_is : (d : Draft) (row : TableRow) (l : Link) (k : ℕ) → row_members d.net.rows ≤ 400000 → length d.net.rows < 200000 → slice_get d.net.links row.link.0 ≡ Some l → nat_lt row.label.0 (length d.net.labels) ≡ true → is_none (position (is_row row.link row.label) d.net.rows) ≡ true
    → groups_rules d.net l.to (row_members d.net.rows) row.groups ≡ Ok k → RowFits d row
row_is d row l k few room at label new rules =
    let held = groups_held d.net l.to (row_members d.net.rows) k row.groups rules in
    record {
      room = room;
      is = and_from (nat_lt row.label.0 (length d.net.labels)) _ label (there_from (λ (m : Link). list_all (is_group_at d.net m.to) row.groups) (slice_get d.net.links row.link.0) l at held.0);
      new = nothing_is (position (is_row row.link row.label) d.net.rows) new;
      counted = omega (arith, held.1, held.2 few);
    }

-- the rules of a new row held
row_held : (d x : Draft) (row : TableRow) → IsDraft d → add_table d row.link row.label row.groups ≡ Ok x → RowFits d row
unfolding add_table
row_held d x row k e =
    let room = rule_held (Limit limited.Rows 200000) (nat_lt (length d.net.rows) 200000) _ x e in
    let link = found_held (Unknown field.In) (slice_get d.net.links row.link.0) _ x room.1 in
    let label = rule_held (Unknown field.Name) (nat_lt row.label.0 (length d.net.labels)) _ x link.2 in
    let new = rule_held Repeated (is_none (position (is_row row.link row.label) d.net.rows)) _ x label.1 in
    let rules = step_held (groups_rules d.net (link.0).to (row_members d.net.rows) row.groups) _ x new.1 in
    row_is d row link.0 rules.0 k.net.few_members (ltb-true _ _ room.0) link.1 label.0 new.0 rules.1

-- a row's link and label have none yet, and its members aren't too many
pub row_counted : (d : Draft) (row : TableRow) → IsDraft d → add_table d row.link row.label row.groups ≡ Ok (with_row d row) → (position (is_row row.link row.label) d.net.rows ≡ None) × (row_members d.net.rows + group_members row.groups ≤ 400000)
row_counted d row k e = let fits = row_held d (with_row d row) row k e in (fits.new, fits.counted)

-- a network with a row more has what it had
row_grows : (d : Draft) (row : TableRow) → Grows d.net ((with_row d row).net)
row_grows d row = record { routers = omega arith; labels = omega arith; interfaces = omega arith; classes = λ i c e. e; links = λ i l e. e }

-- a row more
pub row_kept : (d : Draft) (row : TableRow) → IsDraft d → add_table d row.link row.label row.groups ≡ Ok (with_row d row) → IsDraft (with_row d row)
row_kept d row k e =
    let fits = row_held d (with_row d row) row k e in
    record {
      net = record {
        routers = k.net.routers;
        labels = k.net.labels;
        classes = k.net.classes;
        in_order = k.net.in_order;
        interfaces = k.net.interfaces;
        in_turn = k.net.in_turn;
        links = k.net.links;
        ends = k.net.ends;
        near = k.net.near;
        risks = k.net.risks;
        rows = all_push (is_row_of d.net) d.net.rows row k.net.rows fits.is;
        rows_apart = rows_apart_push d.net.rows row k.net.rows_apart fits.new;
        few_routers = k.net.few_routers;
        few_labels = k.net.few_labels;
        few_links = k.net.few_links;
        few_interfaces = k.net.few_interfaces;
        few_rows = omega (arith, length-append d.net.rows (row ∷ []), fits.room);
        few_members = omega (arith, row_members_push d.net.rows row, fits.counted);
      };
      firsts = k.firsts;
    }
