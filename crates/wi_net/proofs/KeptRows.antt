-- Rows of tables, in a network that grows.
use Rattle.std.proofs.Common.{◌≡◌, ℕ, ◌+◌, ◌≤◌, true, false, ◌&&◌, ◌==◌, nat_lt, nat_le, List, [], ◌∷◌, ◌++◌, length, position, slice_get, Some, None, Ok, refl, sym, ◌∙◌, arith}
use Rattle.std.specs.Prelude.{is_none}
use Rattle.std.specs.List.{list_all}
use Rattle.std.specs.Option.{option_map_or}
use Rattle.std.proofs.lemmas.Bool.{and_parts, and_from, ltb-true, lt-ltb}
use Rattle.wi_labels.specs.declared.label.Class.{Class}
use Rattle.wi_labels.specs.declared.ops.Op.{Op}
use Rattle.wi_labels.specs.declared.ops.Op.TheVariants.{Swap, Push, Pop}
use Rattle.wi_labels.specs.Header.{Entry, same_class}
use Rattle.wi_net.specs.declared.refused.BuildRefused.TheVariants.{Unknown, EmptyGroup, Limit}
use Rattle.wi_net.specs.declared.refused.Field.TheVariants as field
use Rattle.wi_net.specs.declared.refused.Limited.TheVariants as limited
use Rattle.wi_net.specs.declared.parts.RouterId.{RouterId}
use Rattle.wi_net.specs.declared.parts.LinkId.{LinkId}
use Rattle.wi_net.specs.declared.parts.Link.{Link}
use Rattle.wi_net.specs.declared.parts.Member.{Member}
use Rattle.wi_net.specs.declared.parts.TableRow.{TableRow}
use Rattle.wi_net.specs.Tables.{is_row, are_rows_apart, group_members, row_members}
use Rattle.wi_net.specs.Net.{Net, label_known}
use Rattle.wi_net.specs.Network.{op_known, leaves, is_member_at, is_group_at, is_row_of, is_link_of}
use Rattle.wi_net.specs.Builder.{member_rules, members_rules, group_rules, groups_rules}
use Rattle.wi_net.proofs.GroupLemmas.{all_weaken}
use Rattle.wi_net.proofs.KeptLists.{nothing_is, is_nothing, none_push, none_parts, there_parts, there_from, rule_held, step_held, same_flip}

-- what stands in one network stands in another
pub record Grows (old new : Net) : Type 0 where
  pub routers : length old.routers ≤ length new.routers
  pub labels : length old.labels ≤ length new.labels
  pub interfaces : length old.interfaces ≤ length new.interfaces
  pub classes : (i : ℕ) (c : Class) → slice_get old.classes i ≡ Some c → slice_get new.classes i ≡ Some c
  pub links : (i : ℕ) (l : Link) → slice_get old.links i ≡ Some l → slice_get new.links i ≡ Some l

-- a number below one is below a larger one
below_more : (a m n : ℕ) → m ≤ n → nat_lt a m ≡ true → nat_lt a n ≡ true
below_more a m n le h = let less = ltb-true a m h in lt-ltb a n (omega (arith, less))

-- a link stays one between routers and interfaces of the network
link_more : (old new : Net) (l : Link) → Grows old new → is_link_of old l ≡ true → is_link_of new l ≡ true
link_more old new l g h =
    let parts = and_parts (nat_lt l.from.0 (length old.routers) && nat_lt l.to.0 (length old.routers)) (nat_lt l.out_if.0 (length old.interfaces) && nat_lt l.in_if.0 (length old.interfaces)) h in
    let ends = and_parts (nat_lt l.from.0 (length old.routers)) (nat_lt l.to.0 (length old.routers)) parts.0 in
    let named = and_parts (nat_lt l.out_if.0 (length old.interfaces)) (nat_lt l.in_if.0 (length old.interfaces)) parts.1 in
    and_from (nat_lt l.from.0 (length new.routers) && nat_lt l.to.0 (length new.routers)) (nat_lt l.out_if.0 (length new.interfaces) && nat_lt l.in_if.0 (length new.interfaces))
    (and_from (nat_lt l.from.0 (length new.routers)) (nat_lt l.to.0 (length new.routers)) (below_more _ _ _ g.routers ends.0) (below_more _ _ _ g.routers ends.1))
    (and_from (nat_lt l.out_if.0 (length new.interfaces)) (nat_lt l.in_if.0 (length new.interfaces)) (below_more _ _ _ g.interfaces named.0) (below_more _ _ _ g.interfaces named.1))

-- the same of each of several links
pub links_more : (old new : Net) (links : List Link) → Grows old new → list_all (is_link_of old) links ≡ true → list_all (is_link_of new) links ≡ true
links_more old new links g h = all_weaken (is_link_of old) (is_link_of new) links (λ l k. link_more old new l g k) h

-- a label stays known with its class
label_more : (old new : Net) (l : Entry) → Grows old new → label_known old.classes l ≡ true → label_known new.classes l ≡ true
label_more old new l g h =
    let found = there_parts (λ class. same_class class l.1) (slice_get old.classes l.0.0) h in
    there_from (λ class. same_class class l.1) (slice_get new.classes l.0.0) found.0 (g.classes l.0.0 found.0 found.1) found.2

-- an operation's label stays known
op_more : (old new : Net) (op : Op) → Grows old new → op_known old op ≡ true → op_known new op ≡ true
op_more old new (Swap l c) g h = label_more old new (l, c) g h
op_more old new (Push l c) g h = label_more old new (l, c) g h
op_more old new Pop g h = refl

-- a link still leaves its router
leaves_more : (old new : Net) (r : RouterId) (e : LinkId) → Grows old new → leaves old r e ≡ true → leaves new r e ≡ true
leaves_more old new r e g h =
    let found = there_parts (λ (l : Link). l.from.0 == r.0) (slice_get old.links e.0) h in
    there_from (λ (l : Link). l.from.0 == r.0) (slice_get new.links e.0) found.0 (g.links e.0 found.0 found.1) found.2

-- a member stays one that the router may have
member_more : (old new : Net) (r : RouterId) (m : Member) → Grows old new → is_member_at old r m ≡ true → is_member_at new r m ≡ true
member_more old new r m g h =
    let parts = and_parts (leaves old r m.link) (nat_le (length m.ops) 8 && list_all (op_known old) m.ops) h in
    let ops = and_parts (nat_le (length m.ops) 8) (list_all (op_known old) m.ops) parts.1 in
    and_from (leaves new r m.link) (nat_le (length m.ops) 8 && list_all (op_known new) m.ops) (leaves_more old new r m.link g parts.0)
    (and_from (nat_le (length m.ops) 8) (list_all (op_known new) m.ops) ops.0 (all_weaken (op_known old) (op_known new) m.ops (λ op k. op_more old new op g k) ops.1))

-- and a group
group_more : (old new : Net) (r : RouterId) (group : List Member) → Grows old new → is_group_at old r group ≡ true → is_group_at new r group ≡ true
group_more old new r group g h =
    let parts = and_parts (nat_lt 0 (length group)) (list_all (is_member_at old r) group) h in
    and_from (nat_lt 0 (length group)) (list_all (is_member_at new r) group) parts.0 (all_weaken (is_member_at old r) (is_member_at new r) group (λ m k. member_more old new r m g k) parts.1)

-- a row stays one that the network may have
row_more : (old new : Net) (row : TableRow) → Grows old new → is_row_of old row ≡ true → is_row_of new row ≡ true
row_more old new row g h =
    let parts = and_parts (nat_lt row.label.0 (length old.labels)) (option_map_or (λ (l : Link). list_all (is_group_at old l.to) row.groups) (slice_get old.links row.link.0) false) h in
    let found = there_parts (λ (l : Link). list_all (is_group_at old l.to) row.groups) (slice_get old.links row.link.0) parts.1 in
    and_from (nat_lt row.label.0 (length new.labels)) (option_map_or (λ (l : Link). list_all (is_group_at new l.to) row.groups) (slice_get new.links row.link.0) false) (below_more _ _ _ g.labels parts.0)
    (there_from (λ (l : Link). list_all (is_group_at new l.to) row.groups) (slice_get new.links row.link.0) found.0 (g.links row.link.0 found.0 found.1)
    (all_weaken (is_group_at old (found.0).to) (is_group_at new (found.0).to) row.groups (λ group k. group_more old new (found.0).to group g k) found.2))

-- the same of each of several rows
pub rows_more : (old new : Net) (rows : List TableRow) → Grows old new → list_all (is_row_of old) rows ≡ true → list_all (is_row_of new) rows ≡ true
rows_more old new rows g h = all_weaken (is_row_of old) (is_row_of new) rows (λ row k. row_more old new row g k) h

-- two rows are of one link and one label in either order
row_flip : (x y : TableRow) → is_row x.link x.label y ≡ is_row y.link y.label x
row_flip x y = rw (same_flip x.link.0 y.link.0, same_flip x.label.0 y.label.0) refl

-- a row more, of a link and a label that have none
pub rows_apart_push : (rows : List TableRow) (row : TableRow) → are_rows_apart rows ≡ true → position (is_row row.link row.label) rows ≡ None → are_rows_apart (rows ++ row ∷ []) ≡ true
rows_apart_push [] row all new = refl
rows_apart_push (x ∷ rows) row all new =
    let parts = and_parts (is_none (position (is_row x.link x.label) rows)) (are_rows_apart rows) all in
    let apart = none_parts (is_row row.link row.label) x rows new in
    let alone : position (is_row x.link x.label) (rows ++ row ∷ []) ≡ None = none_push (is_row x.link x.label) rows row (nothing_is (position (is_row x.link x.label) rows) parts.0) (row_flip x row ∙ apart.0) in
    and_from (is_none (position (is_row x.link x.label) (rows ++ row ∷ []))) (are_rows_apart (rows ++ row ∷ [])) (is_nothing (position (is_row x.link x.label) (rows ++ row ∷ [])) alone) (rows_apart_push rows row parts.1 apart.1)

-- a row more has the members of its groups more
pub row_members_push : (rows : List TableRow) (row : TableRow) → row_members (rows ++ row ∷ []) ≡ row_members rows + group_members row.groups
row_members_push [] row = omega arith
row_members_push (x ∷ rows) row = omega (arith, row_members_push rows row)

-- a member whose rules hold is one that the router may have, and is counted
member_held : (net : Net) (r : RouterId) (n k : ℕ) (m : Member) → member_rules net r n m ≡ Ok k → (is_member_at net r m ≡ true) × (k ≡ n + 1) × (k ≤ 400000)
unfolding member_rules
member_held net r n k m e =
    let few = rule_held (Limit limited.Members 400000) (nat_lt n 400000) _ k e in
    let out = rule_held (Unknown field.Out) (leaves net r m.link) _ k few.1 in
    let ops = rule_held (Limit limited.Operations 8) (nat_le (length m.ops) 8) _ k out.1 in
    let labels = rule_held (Unknown field.Name) (list_all (op_known net) m.ops) _ k ops.1 in
    let is : n + 1 ≡ k = cc in
    let less = ltb-true n 400000 few.0 in
    (and_from (leaves net r m.link) (nat_le (length m.ops) 8 && list_all (op_known net) m.ops) out.0 (and_from (nat_le (length m.ops) 8) (list_all (op_known net) m.ops) ops.0 labels.0), sym is, omega (arith, is, less))

-- members in turn
members_held : (net : Net) (r : RouterId) (n k : ℕ) (ms : List Member) → members_rules net r n ms ≡ Ok k → (list_all (is_member_at net r) ms ≡ true) × (k ≡ n + length ms) × (n ≤ 400000 → k ≤ 400000)
members_held net r n k [] e = let is : n ≡ k = cc in (refl, omega (arith, is), λ few. omega (arith, is, few))
members_held net r n k (m ∷ ms) e =
    let first = step_held (member_rules net r n m) (λ i. members_rules net r i ms) k e in
    let here = member_held net r n first.0 m first.1 in
    let rest = members_held net r first.0 k ms first.2 in
    (and_from (is_member_at net r m) (list_all (is_member_at net r) ms) here.0 rest.0, omega (arith, here.1, rest.1), λ few. rest.2 here.2)

-- a group has a member, and its members' rules hold
group_held : (net : Net) (r : RouterId) (n k : ℕ) (group : List Member) → group_rules net r n group ≡ Ok k → (is_group_at net r group ≡ true) × (k ≡ n + length group) × (n ≤ 400000 → k ≤ 400000)
unfolding group_rules
group_held net r n k group e =
    let some = rule_held EmptyGroup (nat_lt 0 (length group)) _ k e in
    let rest = members_held net r n k group some.1 in
    (and_from (nat_lt 0 (length group)) (list_all (is_member_at net r) group) some.0 rest.0, rest.1, rest.2)

-- groups whose rules hold are ones that the router may have, and their members are counted
pub groups_held : (net : Net) (r : RouterId) (n k : ℕ) (gs : List (List Member)) → groups_rules net r n gs ≡ Ok k → (list_all (is_group_at net r) gs ≡ true) × (k ≡ n + group_members gs) × (n ≤ 400000 → k ≤ 400000)
groups_held net r n k [] e = let is : n ≡ k = cc in (refl, omega (arith, is), λ few. omega (arith, is, few))
groups_held net r n k (g ∷ gs) e =
    let first = step_held (group_rules net r n g) (λ i. groups_rules net r i gs) k e in
    let here = group_held net r n first.0 g first.1 in
    let rest = groups_held net r first.0 k gs first.2 in
    (and_from (is_group_at net r g) (list_all (is_group_at net r) gs) here.0 rest.0, omega (arith, here.1, rest.1), λ few. rest.2 (here.2 few))
