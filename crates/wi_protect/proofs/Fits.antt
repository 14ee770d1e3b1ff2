-- Rows that break no rule, one after the other.
use Rattle.std.proofs.Common.{◌≡◌, ℕ, ◌+◌, ◌*◌, ◌<◌, ◌≤◌, Bool, true, false, not, ◌&&◌, nat_eq, nat_lt, nat_le, List, [], ◌∷◌, ◌++◌, length, slice_get, position, Option, Some, None, Ok, refl, sym, ap, ◌∙◌, subst, arith, true≢false}
use Rattle.std.specs.List.{list_all, list_any}
use Rattle.std.specs.Option.{option_map_or}
use Rattle.std.proofs.lemmas.Bool.{and_parts, and_from, le-leb, lt-ltb, or_from, not-true, and_right, not_from_false, eqb-true}
use Rattle.std.proofs.lemmas.List.{append_assoc, append-nil, length-append}
use Rattle.std.proofs.lemmas.List.Folds.{list_any-append}
use Rattle.wi_labels.specs.declared.label.Class.TheVariants.{Mpls}
use Rattle.wi_labels.specs.declared.ops.Op.{Op}
use Rattle.wi_labels.specs.declared.ops.Op.TheVariants.{Push}
use Rattle.wi_net.specs.declared.parts.LinkId.{LinkId}
use Rattle.wi_net.specs.declared.parts.Link.{Link}
use Rattle.wi_net.specs.declared.parts.RouterId.{RouterId}
use Rattle.wi_net.specs.declared.parts.Member.{Member}
use Rattle.wi_net.specs.declared.parts.TableRow.{TableRow}
use Rattle.wi_net.specs.Tables.{is_row, group_members, row_members}
use Rattle.wi_net.specs.Net.{Net, label_known}
use Rattle.wi_net.specs.Network.{leaves, op_known, is_member_at, is_group_at, is_row_of}
use Rattle.wi_net.specs.Builder.{Draft, with_row, member_rules, members_rules, group_rules, groups_rules, add_table}
use Rattle.wi_net.proofs.KeptLists.{none_from}
use Rattle.wi_net.proofs.TableLemmas.{row_members_push}
use Rattle.wi_plan.specs.Plans.{first_of, reaches}
use Rattle.wi_protect.specs.Rows.{Round, label, only, row, around, onto}
use Rattle.wi_protect.specs.private.Adding.{MayRow, CanAdd}
use Rattle.wi_protect.proofs.Lookups.{lacks}

-- the rules of members, groups and rows
member_fits : (net : Net) (r : RouterId) (n : ℕ) (m : Member) → is_member_at net r m ≡ true → n < 400000 → member_rules net r n m ≡ Ok (n + 1)
unfolding member_rules
member_fits net r n m is few =
    let p1 = and_parts (leaves net r m.link) (nat_le (length m.ops) 8 && list_all (op_known net) m.ops) is in
    let p2 = and_parts (nat_le (length m.ops) 8) (list_all (op_known net) m.ops) p1.1 in
    rw (lt-ltb n 400000 few, p1.0, p2.0, p2.1) refl

members_fit : (net : Net) (r : RouterId) (n : ℕ) (ms : List Member) → list_all (is_member_at net r) ms ≡ true → n + length ms ≤ 400000 → members_rules net r n ms ≡ Ok (n + length ms)
members_fit net r n [] all few = ap (λ k. Ok k) (omega arith)
members_fit net r n (m ∷ ms) all few =
    let parts = and_parts (is_member_at net r m) (list_all (is_member_at net r) ms) all in
    rw (member_fits net r n m parts.0 (omega arith)) (members_fit net r (n + 1) ms parts.1 (omega arith) ∙ ap (λ k. Ok k) (omega arith))

group_fits : (net : Net) (r : RouterId) (n : ℕ) (g : List Member) → is_group_at net r g ≡ true → n + length g ≤ 400000 → group_rules net r n g ≡ Ok (n + length g)
unfolding group_rules
group_fits net r n g is few =
    let parts = and_parts (nat_lt 0 (length g)) (list_all (is_member_at net r) g) is in
    rw parts.0 (members_fit net r n g parts.1 few)

groups_fit : (net : Net) (r : RouterId) (n : ℕ) (gs : List (List Member)) → list_all (is_group_at net r) gs ≡ true → n + group_members gs ≤ 400000 → groups_rules net r n gs ≡ Ok (n + group_members gs)
groups_fit net r n [] all few = ap (λ k. Ok k) (omega arith)
groups_fit net r n (g ∷ gs) all few =
    let parts = and_parts (is_group_at net r g) (list_all (is_group_at net r) gs) all in
    rw (group_fits net r n g parts.0 (omega arith)) (groups_fit net r (n + length g) gs parts.1 (omega arith) ∙ ap (λ k. Ok k) (omega arith))

-- no row is of this link and label
abbrev pub is_new : List TableRow → TableRow → Bool
is_new rows r = not (list_any (is_row r.link r.label) rows)

row_fits : (d : Draft) (r : TableRow) → is_row_of d.net r ≡ true → is_new d.net.rows r ≡ true → length d.net.rows < 200000 → row_members d.net.rows + group_members r.groups ≤ 400000 → MayRow d r
unfolding add_table
row_fits d r is new few members = go (slice_get d.net.links (r.link).0) refl parts.1
  where
    parts : (nat_lt (r.label).0 (length d.net.labels) ≡ true) × (option_map_or (λ (l : Link). list_all (is_group_at d.net l.to) r.groups) (slice_get d.net.links (r.link).0) false ≡ true)
    parts = and_parts (nat_lt (r.label).0 (length d.net.labels)) (option_map_or (λ (l : Link). list_all (is_group_at d.net l.to) r.groups) (slice_get d.net.links (r.link).0) false) is

    none : position (is_row r.link r.label) d.net.rows ≡ None
    none = none_from (is_row r.link r.label) d.net.rows (not-true (list_any (is_row r.link r.label) d.net.rows) new)

    go : (o : Option Link) → slice_get d.net.links (r.link).0 ≡ o → option_map_or (λ (l : Link). list_all (is_group_at d.net l.to) r.groups) o false ≡ true → MayRow d r
    go None at groups = absurd (true≢false (sym groups))
    go (Some l) at groups = rw (lt-ltb (length d.net.rows) 200000 few, at, parts.0, none, groups_fit d.net l.to (row_members d.net.rows) r.groups groups members) refl

-- rows each of which is new, of the network, and has at most two members
abbrev pub Fits : Net → List TableRow → List TableRow → Type 0
Fits net before [] = Unit {0}
Fits net before (r ∷ rows) = (is_new before r ≡ true) × (is_row_of net r ≡ true) × (group_members r.groups ≤ 2) × Fits net (before ++ r ∷ []) rows

pub fits_append : (net : Net) (before xs ys : List TableRow) → Fits net before xs → Fits net (before ++ xs) ys → Fits net before (xs ++ ys)
fits_append net before [] ys a b = let P : List TableRow → Type 0 = λ rs. Fits net rs ys in subst P (append-nil before) b
fits_append net before (x ∷ xs) ys a b =
    let P : List TableRow → Type 0 = λ rs. Fits net rs ys in
    (a.0, a.1, a.2, fits_append net (before ++ x ∷ []) xs ys a.3 (subst P (sym (append_assoc before (x ∷ []) xs)) b))

pub can_add : (d : Draft) (rows : List TableRow) → Fits d.net d.net.rows rows → length d.net.rows + length rows ≤ 200000 → row_members d.net.rows + 2 * length rows ≤ 400000 → CanAdd d rows
can_add d [] fits few members = tt
can_add d (r ∷ rows) fits few members = (
  row_fits d r fits.1 fits.0 (omega arith) (omega (arith, fits.2)),
  can_add (with_row d r) rows fits.3 (omega (arith, length-append d.net.rows (r ∷ []))) (omega (arith, fits.2, row_members_push d.net.rows r)),
)

-- a row of a label that isn't there is new
pub lacks_new : (n : ℕ) (rows : List TableRow) (e : LinkId) (groups : List (List Member)) → lacks n rows ≡ true → is_new rows (row e (label n) groups) ≡ true
lacks_new n [] e groups h = refl
lacks_new n (x ∷ rows) e groups h =
    let parts = and_parts (not (nat_eq n x.label.0)) (lacks n rows) h in
    let other : is_row e (label n) x ≡ false = and_right (nat_eq e.0 x.link.0) (nat_eq n x.label.0) (not-true (nat_eq n x.label.0) parts.0) in
    rw other (lacks_new n rows e groups parts.1)

pub new_append : (xs ys : List TableRow) (r : TableRow) → is_new xs r ≡ true → is_new ys r ≡ true → is_new (xs ++ ys) r ≡ true
new_append xs ys r a b =
    not_from_false (list_any (is_row r.link r.label) (xs ++ ys))
    (list_any-append (is_row r.link r.label) xs ys ∙ or_from (list_any (is_row r.link r.label) xs) (list_any (is_row r.link r.label) ys) (not-true (list_any (is_row r.link r.label) xs) a) (not-true (list_any (is_row r.link r.label) ys) b))

abbrev router : ℕ → RouterId
router n = record { 0 = n }

-- groups that a router may have: its number alone counts
group_same : (net : Net) (r s : RouterId) (gs : List (List Member)) → r.0 ≡ s.0 → list_all (is_group_at net r) gs ≡ true → list_all (is_group_at net s) gs ≡ true
group_same net r s gs same all = let is : r ≡ s = ap router same in ap (λ x. list_all (is_group_at net x) gs) (sym is) ∙ all

-- a row of a link that reaches a router
pub row_of : (net : Net) (e : LinkId) (l : Link) (n : ℕ) (gs : List (List Member)) → slice_get net.links e.0 ≡ Some l → n < length net.labels → list_all (is_group_at net l.to) gs ≡ true → is_row_of net (row e (label n) gs) ≡ true
row_of net e l n gs at few all = rw (lt-ltb n (length net.labels) few, at) all

-- and of one that reaches the same
pub row_of_same : (net : Net) (e : LinkId) (r : RouterId) (n : ℕ) (gs : List (List Member)) → reaches net r e ≡ true → n < length net.labels → list_all (is_group_at net r) gs ≡ true → is_row_of net (row e (label n) gs) ≡ true
row_of_same net e r n gs reach few all = go (slice_get net.links e.0) refl reach
  where
    go : (o : Option Link) → slice_get net.links e.0 ≡ o → option_map_or (λ (l : Link). nat_eq l.to.0 r.0) o false ≡ true → is_row_of net (row e (label n) gs) ≡ true
    go None at h = absurd (true≢false (sym h))
    go (Some l) at h = row_of net e l n gs at few (group_same net r l.to gs (sym (eqb-true l.to.0 r.0 h)) all)

-- a group of one member
only_at : (net : Net) (r : RouterId) (e : LinkId) (ops : List Op) → leaves net r e ≡ true → length ops ≤ 8 → list_all (op_known net) ops ≡ true → is_group_at net r (only e ops) ≡ true
only_at net r e ops leave few known = rw (leave, le-leb (length ops) 8 few, known) refl

-- a way around that leaves a router, with labels of the network
pub record IsWay (net : Net) (r : RouterId) (way : Round) : Type 0 where
  pub leave : option_map_or (λ v. leaves net r v) (first_of way.via) false ≡ true
  pub known : 1 < length way.via → label_known net.classes (label way.first, Mpls) ≡ true

around_at : (net : Net) (r : RouterId) (l : ℕ) (op : Op) (via : List LinkId) → option_map_or (λ v. leaves net r v) (first_of via) false ≡ true → (1 < length via → label_known net.classes (label l, Mpls) ≡ true) → op_known net op ≡ true → (list_all (is_group_at net r) (around l op via) ≡ true) × (group_members (around l op via) ≤ 1)
around_at net r l op [] leave known op_is = (refl, omega arith)
around_at net r l op (v ∷ []) leave known op_is = (and_from (is_group_at net r (only v (op ∷ []))) true (only_at net r v (op ∷ []) leave (omega arith) (and_from (op_known net op) true op_is refl)) refl, omega arith)
around_at net r l op (v ∷ w ∷ via) leave known op_is = (
  and_from (is_group_at net r (only v (op ∷ Push (label l) Mpls ∷ []))) true
      (only_at net r v (op ∷ Push (label l) Mpls ∷ []) leave (omega arith) (and_from (op_known net op) (label_known net.classes (label l, Mpls) && true) op_is (and_from (label_known net.classes (label l, Mpls)) true (known (omega arith)) refl))) refl,
  omega arith,
)

-- the groups of a hop
pub onto_at : (net : Net) (r : RouterId) (o : Option Round) (op : Op) (e : LinkId) → leaves net r e ≡ true → op_known net op ≡ true → ((way : Round) → o ≡ Some way → IsWay net r way) → (list_all (is_group_at net r) (onto o op e) ≡ true) × (group_members (onto o op e) ≤ 2)
onto_at net r None op e leave known ways = (and_from (is_group_at net r (only e (op ∷ []))) true (only_at net r e (op ∷ []) leave (omega arith) (and_from (op_known net op) true known refl)) refl, omega arith)
onto_at net r (Some way) op e leave known ways =
    let is = ways way refl in
    let more = around_at net r way.first op way.via is.leave is.known known in
    (and_from (is_group_at net r (only e (op ∷ []))) (list_all (is_group_at net r) (around way.first op way.via)) (only_at net r e (op ∷ []) leave (omega arith) (and_from (op_known net op) true known refl)) more.0, omega (arith, more.1))

pub pop_at : (net : Net) (r : RouterId) (e : LinkId) (op : Op) → leaves net r e ≡ true → op_known net op ≡ true → (list_all (is_group_at net r) (only e (op ∷ []) ∷ []) ≡ true) × (group_members (only e (op ∷ []) ∷ []) ≤ 2)
pop_at net r e op leave known = (and_from (is_group_at net r (only e (op ∷ []))) true (only_at net r e (op ∷ []) leave (omega arith) (and_from (op_known net op) true known refl)) refl, omega arith)
