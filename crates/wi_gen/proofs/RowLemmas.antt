-- A row that is the next of a ring's breaks no rule.
use Rattle.std.proofs.Common.{◌≡◌, ℕ, ◌+◌, ◌<◌, ◌≤◌, Bool, true, false, ◌&&◌, nat_lt, nat_le, List, [], ◌∷◌, ◌++◌, length, slice_get, None, Result, Ok, Err, position, refl, sym, ap, ◌∙◌, subst, arith, append_assoc, length-append}
use Rattle.std.specs.Prelude.{is_none, OnOk}
use Rattle.std.specs.List.{list_any, list_all}
use Rattle.std.specs.Option.{option_map_or}
use Rattle.std.proofs.lemmas.Bool.{and_parts, or_parts, or_from, lt-ltb}
use Rattle.std.proofs.lemmas.List.{append-nil}
use Rattle.std.proofs.lemmas.List.Folds.{list_any-append}
use Rattle.wi_labels.specs.declared.label.Label.{Label}
use Rattle.wi_net.specs.declared.parts.RouterId.{RouterId}
use Rattle.wi_net.specs.declared.parts.LinkId.{LinkId}
use Rattle.wi_net.specs.declared.parts.Link.{Link}
use Rattle.wi_net.specs.declared.parts.Member.{Member}
use Rattle.wi_net.specs.declared.parts.TableRow.{TableRow}
use Rattle.wi_net.specs.Tables.{is_row, are_rows_apart, group_members, row_members}
use Rattle.wi_net.specs.Net.{Net}
use Rattle.wi_net.specs.Network.{op_known, leaves, is_member_at, is_group_at, is_row_of}
use Rattle.wi_net.specs.Builder.{Draft, member_rules, members_rules, group_rules, groups_rules, add_table, with_row}
use Rattle.wi_net.proofs.FindingLemmas.{none_any}
use Rattle.wi_net.proofs.KeptLists.{nothing_is, is_nothing, none_from, there_parts, same_flip}
use Rattle.wi_gen.specs.Ring.{Ring, net_of, rows_of, links_of, interfaces}
use Rattle.wi_gen.specs.private.Ring.{IsRing}
use Rattle.wi_gen.specs.private.Making.{draft_of, with_links, with_rows, IsAllowed, Lacks}
use Rattle.wi_gen.proofs.LinkLemmas.{rule_ok, found_ok}

-- ---- members that a router may have break no rule while they are few
member_ok : (net : Net) (router : RouterId) (n : ℕ) (m : Member) → n < 400000 → is_member_at net router m ≡ true
    → member_rules net router n m ≡ Ok (n + 1)
unfolding member_rules
member_ok net router n m few good =
    let parts = and_parts (leaves net router m.link) (nat_le (length m.ops) 8 && list_all (op_known net) m.ops) good in
    let ops = and_parts (nat_le (length m.ops) 8) (list_all (op_known net) m.ops) parts.1 in
    rule_ok _ _ _ (lt-ltb n 400000 few) ∙ rule_ok _ _ _ parts.0 ∙ rule_ok _ _ _ ops.0 ∙ rule_ok _ _ _ ops.1

members_ok : (net : Net) (router : RouterId) (n : ℕ) (ms : List Member) → n + length ms ≤ 400000 → list_all (is_member_at net router) ms ≡ true
    → members_rules net router n ms ≡ Ok (n + length ms)
members_ok net router n [] few good = ap Ok (omega arith)
members_ok net router n (m ∷ ms) few good =
    let parts = and_parts (is_member_at net router m) (list_all (is_member_at net router) ms) good in
    rw (member_ok net router n m (omega arith) parts.0) (members_ok net router (n + 1) ms (omega arith) parts.1 ∙ ap Ok (omega arith))

group_ok : (net : Net) (router : RouterId) (n : ℕ) (group : List Member) → n + length group ≤ 400000 → is_group_at net router group ≡ true
    → group_rules net router n group ≡ Ok (n + length group)
unfolding group_rules
group_ok net router n group few good =
    let parts = and_parts (nat_lt 0 (length group)) (list_all (is_member_at net router) group) good in
    rule_ok _ _ _ parts.0 ∙ members_ok net router n group few parts.1

groups_ok : (net : Net) (router : RouterId) (n : ℕ) (groups : List (List Member)) → n + group_members groups ≤ 400000
    → list_all (is_group_at net router) groups ≡ true → groups_rules net router n groups ≡ Ok (n + group_members groups)
groups_ok net router n [] few good = ap Ok (omega arith)
groups_ok net router n (g ∷ groups) few good =
    let parts = and_parts (is_group_at net router g) (list_all (is_group_at net router) groups) good in
    rw (group_ok net router n g (omega arith) parts.0) (groups_ok net router (n + length g) groups (omega arith) parts.1 ∙ ap Ok (omega arith))

-- what breaks no rule is added
row_ok : (d : Draft) (row : TableRow) → length d.net.rows < 200000 → row_members d.net.rows + group_members row.groups ≤ 400000
    → is_row_of d.net row ≡ true → position (is_row row.link row.label) d.net.rows ≡ None → IsAllowed d row
unfolding add_table
row_ok d row few little good new =
    let parts = and_parts (nat_lt row.label.0 (length d.net.labels)) (option_map_or (λ (l : Link). list_all (is_group_at d.net l.to) row.groups) (slice_get d.net.links row.link.0) false) good in
    let found = there_parts (λ (l : Link). list_all (is_group_at d.net l.to) row.groups) (slice_get d.net.links row.link.0) parts.1 in
    rule_ok _ _ _ (lt-ltb (length d.net.rows) 200000 few) ∙ found_ok _ _ found.0 _ found.1 ∙ rule_ok _ _ _ parts.0 ∙ rule_ok _ _ _ (is_nothing _ new)
    ∙ rw (groups_ok d.net (found.0).to (row_members d.net.rows) row.groups little found.2) refl

-- ---- rows apart: none before one has its link and label
row_flip : (x y : TableRow) → is_row x.link x.label y ≡ is_row y.link y.label x
row_flip x y = rw (same_flip x.link.0 y.link.0, same_flip x.label.0 y.label.0) refl

none_before : (xs : List TableRow) (y : TableRow) (ys : List TableRow) → are_rows_apart (xs ++ y ∷ ys) ≡ true
    → list_any (is_row y.link y.label) xs ≡ false
none_before [] y ys apart = refl
none_before (x ∷ xs) y ys apart =
    let p : TableRow → Bool = is_row x.link x.label in
    let parts = and_parts (is_none (position p (xs ++ y ∷ ys))) (are_rows_apart (xs ++ y ∷ ys)) apart in
    let none : list_any p (xs ++ y ∷ ys) ≡ false = none_any p (xs ++ y ∷ ys) (nothing_is (position p (xs ++ y ∷ ys)) parts.0) in
    let split = or_parts (list_any p xs) (list_any p (y ∷ ys)) (sym (list_any-append p xs (y ∷ ys)) ∙ none) in
    let here = or_parts (p y) (list_any p ys) split.1 in
    or_from (is_row y.link y.label x) (list_any (is_row y.link y.label) xs) (row_flip y x ∙ here.0) (none_before xs y ys parts.1)

pub members-append : (xs ys : List TableRow) → row_members (xs ++ ys) ≡ row_members xs + row_members ys
members-append [] ys = omega arith
members-append (x ∷ xs) ys = omega (arith, members-append xs ys)

-- ---- the next row
-- what a ring's rows keep, all of them
pub record AreFew (rows : List TableRow) : Type 0 where
  pub apart : are_rows_apart rows ≡ true
  pub count : length rows ≤ 200000
  pub members : row_members rows ≤ 400000

next_allowed : (ring : Ring) (d : Draft) (row : TableRow) (left : List TableRow) → AreFew (rows_of ring) → Lacks ring d (row ∷ left)
    → is_row_of (net_of ring) row ≡ true → IsAllowed d row
next_allowed ring d row left few lacks good =
    let P : Draft → Type 0 = λ x. IsAllowed x row in
    subst P (sym lacks.made)
    (row_ok (with_rows ring before) row (omega (arith, few.count, ap length lacks.rows, length-append before (row ∷ left)))
    (omega (arith, few.members, ap row_members lacks.rows, members-append before (row ∷ left)))
    good
    (none_from (is_row row.link row.label) before (none_before before row left (ap are_rows_apart lacks.rows ∙ few.apart))))
  where
    before : List TableRow
    before = d.net.rows

-- and is wanting no more once it is added
added : (ring : Ring) (d after : Draft) (row : TableRow) (left : List TableRow) → Lacks ring d (row ∷ left) → after ≡ with_row d row
    → Lacks ring after left
added ring d after row left lacks is =
    let P : Draft → Type 0 = λ x. Lacks ring x left in
    subst P (sym is)
    (record {
      bounds = lacks.bounds;
      made = ap (λ (x : Draft). record x { net = record x.net { rows = d.net.rows ++ row ∷ [] } }) lacks.made;
      rows = append_assoc d.net.rows (row ∷ []) left ∙ lacks.rows;
    })

pub lacks_as : (ring : Ring) (d : Draft) (left same : List TableRow) → Lacks ring d left → left ≡ same → Lacks ring d same
lacks_as ring d left same lacks e =
    let P : List TableRow → Type 0 = λ rows. Lacks ring d rows in
    subst P e lacks

-- the same of the first of what is left, told in another way
pub first_allowed : (ring : Ring) (d : Draft) (left rest : List TableRow) (row same : TableRow) → AreFew (rows_of ring) → Lacks ring d left
    → left ≡ row ∷ rest → same ≡ row → is_row_of (net_of ring) row ≡ true → IsAllowed d same
first_allowed ring d left rest row same few lacks e is good =
    let P : TableRow → Type 0 = λ x. IsAllowed d x in
    subst P (sym is) (next_allowed ring d row rest few (lacks_as ring d left (row ∷ rest) lacks e) good)

next_added : (ring : Ring) (d after : Draft) (left rest : List TableRow) (row same : TableRow) → Lacks ring d left → left ≡ row ∷ rest
    → same ≡ row → after ≡ with_row d same → Lacks ring after rest
next_added ring d after left rest row same lacks begins is made = added ring d after row rest (lacks_as ring d left (row ∷ rest) lacks begins) (made ∙ ap (with_row d) is)

pub first_added : {A E : Type 0} (result : Result A E) (ring : Ring) (d after : Draft) (left rest : List TableRow) (row same : TableRow)
    → Lacks ring d left → left ≡ row ∷ rest → same ≡ row → OnOk result (after ≡ with_row d same) → OnOk result (Lacks ring after rest)
first_added (Err e) ring d after left rest row same lacks begins is made = tt
first_added (Ok x) ring d after left rest row same lacks begins is made = next_added ring d after left rest row same lacks begins is made

-- and of the second
pub second_allowed : (ring : Ring) (d mid : Draft) (left rest : List TableRow) (row same next next_same : TableRow) → AreFew (rows_of ring)
    → Lacks ring d left → left ≡ row ∷ next ∷ rest → same ≡ row → mid ≡ with_row d same → next_same ≡ next
    → is_row_of (net_of ring) next ≡ true → IsAllowed mid next_same
second_allowed ring d mid left rest row same next next_same few lacks begins is made is_next good =
    first_allowed ring mid (next ∷ rest) rest next next_same few (next_added ring d mid left (next ∷ rest) row same lacks begins is made) refl
    is_next good

pub second_added : {A E : Type 0} (result : Result A E) (ring : Ring) (d mid after : Draft) (left rest : List TableRow)
    (row same next next_same : TableRow) → Lacks ring d left → left ≡ row ∷ next ∷ rest → same ≡ row → mid ≡ with_row d same
    → next_same ≡ next → OnOk result (after ≡ with_row mid next_same) → OnOk result (Lacks ring after rest)
second_added result ring d mid after left rest row same next next_same lacks begins is made is_next done =
    first_added result ring mid after (next ∷ rest) rest next next_same
    (next_added ring d mid left (next ∷ rest) row same lacks begins is made) refl is_next done

pub row_is : (link from : LinkId) (label wanted : Label) (groups stated : List (List Member)) → link ≡ from → label ≡ wanted → groups ≡ stated
    → (let made : TableRow = record { link = link; label = label; groups = groups } in made ≡ record { link = from; label = wanted; groups = stated })
row_is link from label wanted groups stated same e is = rw (same, e, is) refl

-- ---- with no row, and with all
pub none_made : (ring : Ring) (d : Draft) → IsRing ring → d ≡ with_links ring interfaces (links_of ring) → Lacks ring d (rows_of ring)
none_made ring d bounds made =
    let P : Draft → Type 0 = λ x. Lacks ring x (rows_of ring) in
    subst P (sym made) (record { bounds = bounds; made = refl; rows = refl })

pub all_made : {A E : Type 0} (result : Result A E) (ring : Ring) (d : Draft) → OnOk result (Lacks ring d [])
    → OnOk result (d ≡ draft_of (net_of ring))
all_made (Err e) ring d lacks = tt
all_made (Ok x) ring d lacks = lacks.made ∙ ap (with_rows ring) (sym (append-nil d.net.rows) ∙ lacks.rows)
