-- First active groups, and what must have failed before them.
use Rattle.std.proofs.Common.{◌≡◌, ℕ, zero, suc, ◌+◌, Bool, true, false, not, ◌&&◌, ◌||◌, nat_lt, nat_le, List, [], ◌∷◌, length, take, slice_get, Option, Some, None, refl, arith, ap, inl, inr, sym, ◌∙◌, one-add}
use Rattle.std.proofs.lemmas.Bool.{and_parts, and_from, not-true, not-false, not_from_false, or_cases, or_left, or_right, or_parts, false_from_ne_true, true≢false, ltb-true, ltb-false, lt-ltb, le-ltb}
use Rattle.std.proofs.lemmas.Option.{slice_get_within}
use Rattle.std.specs.List.{list_any, list_all, prefix_len}
use Rattle.std.specs.Option.{option_map, option_map_or}
use Rattle.wi_labels.specs.declared.label.Label.{Label}
use Rattle.wi_net.specs.declared.parts.LinkId.{LinkId}
use Rattle.wi_net.specs.declared.parts.RouterId.{RouterId}
use Rattle.wi_net.specs.declared.parts.Link.{Link}
use Rattle.wi_net.specs.declared.parts.Member.{Member}
use Rattle.wi_net.specs.declared.parts.TableRow.{TableRow}
use Rattle.wi_net.specs.Net.{Net}
use Rattle.wi_net.specs.LinkSet.{has}
use Rattle.wi_net.specs.Net.{is_link, same_risk, widened, is_active, first_active, before, entry}
use Rattle.wi_net.specs.Tables.{is_row, groups_in}
use Rattle.wi_net.specs.Network.{leaves, op_known, is_member_at, is_group_at, is_row_of, IsNetwork}
use Rattle.wi_net.specs.private.Network.{is_member_of, are_groups_of}
use Rattle.wi_net.proofs.SetLemmas.{where_has, has_where, union_has, same_risk_self}

-- a link of one of the groups passes a test
abbrev pub any_link : (LinkId → Bool) → List (List Member) → Bool
any_link p groups = list_any (λ g. list_any (λ m. p m.link) g) groups

-- each link of the groups is one of the network's
abbrev pub groups_known : Net → List (List Member) → Bool
groups_known net groups = list_all (λ group. list_all (λ m. is_link net m.link) group) groups

-- of a group that isn't active each link is failed
failed_in : (p : LinkId → Bool) (fails : List LinkId) (g : List Member) → is_active fails g ≡ false → list_any (λ m. p m.link) g ≡ true → (d : LinkId) × (has fails d ≡ true) × (p d ≡ true)
failed_in p fails [] a h = cc
failed_in p fails (m ∷ ms) a h =
    let parts = or_parts (not (has fails m.link)) (is_active fails ms) a in
    elim (or_cases (p m.link) (list_any (λ x. p x.link) ms) h) [
      | inl pm ↦ (m.link, not-false (has fails m.link) parts.0, pm)
      | inr more ↦ failed_in p fails ms parts.1 more
    ]

first_here : (fails : List LinkId) (g : List Member) (gs : List (List Member)) → is_active fails g ≡ true → first_active fails (g ∷ gs) ≡ Some 0
first_here fails g gs a = rw a (rw (lt-ltb 0 (suc (length gs)) (omega arith)) refl)

-- how many groups stand before the first active one
abbrev idle : List LinkId → List (List Member) → ℕ
idle fails gs = prefix_len (λ g. not (is_active fails g)) gs

first_none : (fails : List LinkId) (g : List Member) (gs : List (List Member)) → is_active fails g ≡ false → first_active fails gs ≡ None → first_active fails (g ∷ gs) ≡ None
first_none fails g gs a n = go (nat_lt (idle fails gs) (length gs)) refl
  where
    go : (c : Bool) → nat_lt (idle fails gs) (length gs) ≡ c → first_active fails (g ∷ gs) ≡ None
    go true c = let e : Some (idle fails gs) ≡ None = rw c at n in cc
    go false c = let all = ltb-false (idle fails gs) (length gs) c in rw (a, le-ltb (1 + idle fails gs) (suc (length gs)) (omega (arith, all))) refl

first_later : (fails : List LinkId) (g : List Member) (gs : List (List Member)) (j : ℕ) → is_active fails g ≡ false → first_active fails gs ≡ Some j → first_active fails (g ∷ gs) ≡ Some (suc j)
first_later fails g gs j a n = go (nat_lt (idle fails gs) (length gs)) refl
  where
    go : (c : Bool) → nat_lt (idle fails gs) (length gs) ≡ c → first_active fails (g ∷ gs) ≡ Some (suc j)
    go true c =
        let e : Some (idle fails gs) ≡ Some j = rw c at n in
        let less = ltb-true (idle fails gs) (length gs) c in
        rw (a, lt-ltb (1 + idle fails gs) (suc (length gs)) (omega (arith, less))) (ap Some (one-add (idle fails gs)) ∙ ap (λ o. option_map suc o) e)
    go false c = let e : None ≡ Some j = rw c at n in cc

first_suc : (fails : List LinkId) (g : List Member) (gs : List (List Member)) (j : ℕ) → first_active fails (g ∷ gs) ≡ Some (suc j) → (is_active fails g ≡ false) × (first_active fails gs ≡ Some j)
first_suc fails g gs j f = go (is_active fails g) (first_active fails gs) refl refl
  where
    go : (b : Bool) (o : Option ℕ) → is_active fails g ≡ b → first_active fails gs ≡ o → (is_active fails g ≡ false) × (first_active fails gs ≡ Some j)
    go true o eb eo = cc (first_here fails g gs eb)
    go false None eb eo = cc (first_none fails g gs eb eo)
    go false (Some i) eb eo = (eb, (let e = first_later fails g gs i eb eo in cc))

-- each link of the groups before the first active one is failed
pub failed_before : (p : LinkId → Bool) (fails : List LinkId) (gs : List (List Member)) (j : ℕ) → first_active fails gs ≡ Some j → any_link p (take j gs) ≡ true → (d : LinkId) × (has fails d ≡ true) × (p d ≡ true)
failed_before p fails [] zero f h = cc
failed_before p fails [] (suc j) f h = cc
failed_before p fails (g ∷ gs) zero f h = cc
failed_before p fails (g ∷ gs) (suc j) f h =
    let parts = first_suc fails g gs j f in
    elim (or_cases (list_any (λ m. p m.link) g) (any_link p (take j gs)) h) [
      | inl here ↦ failed_in p fails g parts.0 here
      | inr later ↦ failed_before p fails gs j parts.1 later
    ]

-- where a union of risk groups is failed, what a group needs is in it once the group is the first active one
pub before_failed : (net : Net) (fails : List LinkId) (gs : List (List Member)) (j : ℕ) (e : LinkId) → widened net fails ≡ fails → first_active fails gs ≡ Some j → has (before net gs j) e ≡ true → has fails e ≡ true
before_failed net fails gs j e u f h =
    let known = where_has net (λ x. any_link (λ d. same_risk net d x) (take j gs)) e h in
    let found = failed_before (λ d. same_risk net d e) fails gs j f known.1 in
    union_has net fails found.0 e u found.1 found.2 known.0

-- a group is the first active one where none before it is active
pub first_is : (fails : List LinkId) (gs : List (List Member)) (j : ℕ) (g : List Member) → slice_get gs j ≡ Some g → is_active fails g ≡ true → list_any (λ x. is_active fails x) (take j gs) ≡ false → first_active fails gs ≡ Some j
first_is fails [] j g s a n = cc
first_is fails (x ∷ gs) zero g s a n = first_here fails x gs (let e : x ≡ g = cc in rw e a)
first_is fails (x ∷ gs) (suc j) g s a n =
    let parts = or_parts (is_active fails x) (list_any (λ y. is_active fails y) (take j gs)) n in
    first_later fails x gs j parts.0 (first_is fails gs j g s a parts.1)

-- a link that shows that one of the groups has a link that passes a test
pub record Witness (net : Net) (p : LinkId → Bool) (gs : List (List Member)) : Type 0 where
  pub link : LinkId
  pub passes : p link ≡ true
  pub known : is_link net link ≡ true
  pub any : (q : LinkId → Bool) → q link ≡ true → any_link q gs ≡ true

in_group : (net : Net) (p : LinkId → Bool) (g : List Member) → list_all (λ m. is_link net m.link) g ≡ true → list_any (λ m. p m.link) g ≡ true → Witness net p (g ∷ [])
in_group net p [] k h = cc
in_group net p (m ∷ ms) k h =
    let known = and_parts (is_link net m.link) (list_all (λ x. is_link net x.link) ms) k in
    elim (or_cases (p m.link) (list_any (λ x. p x.link) ms) h) [
      | inl pm ↦ record { link = m.link; passes = pm; known = known.0; any = λ q qm. or_left (q m.link || list_any (λ x. q x.link) ms) false (or_left (q m.link) (list_any (λ x. q x.link) ms) qm) }
      | inr more ↦
          (let w = in_group net p ms known.1 more in
          record { link = w.link; passes = w.passes; known = w.known; any = λ q qm. or_left (q m.link || list_any (λ x. q x.link) ms) false (or_right (q m.link) (list_any (λ x. q x.link) ms) (elim (or_cases (list_any (λ x. q x.link) ms) false (w.any q qm)) [ inl t ↦ t | inr f ↦ cc ])) })
    ]

pub in_groups : (net : Net) (p : LinkId → Bool) (gs : List (List Member)) → groups_known net gs ≡ true → any_link p gs ≡ true → Witness net p gs
in_groups net p [] k h = cc
in_groups net p (g ∷ gs) k h =
    let known = and_parts (list_all (λ m. is_link net m.link) g) (groups_known net gs) k in
    elim (or_cases (list_any (λ m. p m.link) g) (any_link p gs) h) [
      | inl here ↦
          (let w = in_group net p g known.0 here in
          record { link = w.link; passes = w.passes; known = w.known; any = λ q qm. or_left (list_any (λ m. q m.link) g) (any_link q gs) (elim (or_cases (list_any (λ m. q m.link) g) false (w.any q qm)) [ inl t ↦ t | inr f ↦ cc ]) })
      | inr more ↦
          (let w = in_groups net p gs known.1 more in
          record { link = w.link; passes = w.passes; known = w.known; any = λ q qm. or_right (list_any (λ m. q m.link) g) (any_link q gs) (w.any q qm) })
    ]

-- the groups of an entry have only links of the network, and so have the first of them
known_take : (net : Net) (gs : List (List Member)) (j : ℕ) → groups_known net gs ≡ true → groups_known net (take j gs) ≡ true
known_take net [] zero k = refl
known_take net [] (suc j) k = refl
known_take net (g ∷ gs) zero k = refl
known_take net (g ∷ gs) (suc j) k =
    let known = and_parts (list_all (λ m. is_link net m.link) g) (groups_known net gs) k in
    and_from (list_all (λ m. is_link net m.link) g) (groups_known net (take j gs)) known.0 (known_take net gs j known.1)

-- a test of each element that another implies
pub all_weaken : {X : Type 0} (p q : X → Bool) (xs : List X) → ((x : X) → p x ≡ true → q x ≡ true) → list_all p xs ≡ true → list_all q xs ≡ true
all_weaken p q [] each h = refl
all_weaken p q (x ∷ xs) each h =
    let parts = and_parts (p x) (list_all p xs) h in
    and_from (q x) (list_all q xs) (each x parts.0) (all_weaken p q xs each parts.1)

-- a link that leaves a router is one of the network's
pub leaves_link : (net : Net) (router : RouterId) (e : LinkId) → leaves net router e ≡ true → is_link net e ≡ true
leaves_link net router e h = go (slice_get net.links e.0) refl
  where
    go : (o : Option Link) → slice_get net.links e.0 ≡ o → is_link net e ≡ true
    go None eo = let none : false ≡ true = rw eo at h in cc
    go (Some l) eo = lt-ltb e.0 (length net.links) (slice_get_within net.links e.0 l eo)

-- a member that a table of a router may have is one of the network's, and so are the groups of a row
member_of : (net : Net) (r : RouterId) (m : Member) → is_member_at net r m ≡ true → is_member_of net m ≡ true
member_of net r m h =
    let parts = and_parts (leaves net r m.link) (nat_le (length m.ops) 8 && list_all (op_known net) m.ops) h in
    let ops = and_parts (nat_le (length m.ops) 8) (list_all (op_known net) m.ops) parts.1 in
    and_from (is_link net m.link) (list_all (op_known net) m.ops) (leaves_link net r m.link parts.0) ops.1

group_of : (net : Net) (r : RouterId) (g : List Member) → is_group_at net r g ≡ true → list_all (is_member_of net) g ≡ true
group_of net r g h = all_weaken (is_member_at net r) (is_member_of net) g (member_of net r) ((and_parts (nat_lt 0 (length g)) (list_all (is_member_at net r) g) h).1)

pub row_groups : (net : Net) (row : TableRow) → is_row_of net row ≡ true → are_groups_of net row.groups ≡ true
row_groups net row h = go (slice_get net.links row.link.0) refl
  where
    parts : (nat_lt row.label.0 (length net.labels) ≡ true) × (option_map_or (λ (l : Link). list_all (is_group_at net l.to) row.groups) (slice_get net.links row.link.0) false ≡ true)
    parts = and_parts (nat_lt row.label.0 (length net.labels)) (option_map_or (λ (l : Link). list_all (is_group_at net l.to) row.groups) (slice_get net.links row.link.0) false) h

    go : (o : Option Link) → slice_get net.links row.link.0 ≡ o → are_groups_of net row.groups ≡ true
    go None eo = let none : false ≡ true = rw eo at parts.1 in cc
    go (Some l) eo = all_weaken (is_group_at net l.to) (λ g. list_all (is_member_of net) g) row.groups (group_of net l.to) (rw eo at parts.1)

groups_of_rows : (net : Net) (rows : List TableRow) (e : LinkId) (l : Label) → list_all (is_row_of net) rows ≡ true → are_groups_of net (groups_in rows e l) ≡ true
groups_of_rows net [] e l k = refl
groups_of_rows net (row ∷ rows) e l k = go (is_row e l row) refl (groups_of_rows net rows e l)
  where
    parts : (is_row_of net row ≡ true) × (list_all (is_row_of net) rows ≡ true)
    parts = and_parts (is_row_of net row) (list_all (is_row_of net) rows) k

    go : (b : Bool) → is_row e l row ≡ b → (list_all (is_row_of net) rows ≡ true → are_groups_of net (groups_in rows e l) ≡ true) → are_groups_of net (groups_in (row ∷ rows) e l) ≡ true
    go true eb ih = rw eb (row_groups net row parts.0)
    go false eb ih = rw eb (ih parts.1)

-- the groups of an entry have members of the network
pub entry_groups : (net : Net) (e : LinkId) (l : Label) → IsNetwork net → are_groups_of net (entry net e l) ≡ true
entry_groups net e l k = groups_of_rows net net.rows e l k.rows

-- members of the network have links of it
pub members_links : (net : Net) (g : List Member) → list_all (is_member_of net) g ≡ true → list_all (λ (m : Member). is_link net m.link) g ≡ true
members_links net g h = all_weaken (is_member_of net) (λ (m : Member). is_link net m.link) g (λ m k. (and_parts (is_link net m.link) (list_all (op_known net) m.ops) k).0) h

pub entry_known : (net : Net) (e : LinkId) (l : Label) → IsNetwork net → groups_known net (entry net e l) ≡ true
entry_known net e l k = all_weaken (λ g. list_all (is_member_of net) g) (λ g. list_all (λ (m : Member). is_link net m.link) g) (entry net e l) (members_links net) (entry_groups net e l k)

-- where what a group needs has failed, no group before it is active
pub none_before : (net : Net) (fails : List LinkId) (gs : List (List Member)) (j : ℕ) → groups_known net gs ≡ true → ((e : LinkId) → has (before net gs j) e ≡ true → has fails e ≡ true) → list_any (λ g. is_active fails g) (take j gs) ≡ false
none_before net fails gs j k each = false_from_ne_true (list_any (λ g. is_active fails g) (take j gs)) (λ h. none h)
  where
    none : list_any (λ g. is_active fails g) (take j gs) ≡ true → ⊥
    none h =
        let w = in_groups net (λ d. not (has fails d)) (take j gs) (known_take net gs j k) h in
        let needed : has (before net gs j) w.link ≡ true = has_where net (λ x. any_link (λ d. same_risk net d x) (take j gs)) w.link w.known (w.any (λ d. same_risk net d w.link) (same_risk_self net w.link)) in
        true≢false (sym (each w.link needed) ∙ not-true (has fails w.link) w.passes)

any_weaken : {X : Type 0} (p q : X → Bool) (xs : List X) → ((x : X) → p x ≡ true → q x ≡ true) → list_any p xs ≡ true → list_any q xs ≡ true
any_weaken p q [] each h = cc
any_weaken p q (x ∷ xs) each h =
    elim (or_cases (p x) (list_any p xs) h) [
      | inl px ↦ or_left (q x) (list_any q xs) (each x px)
      | inr more ↦ or_right (q x) (list_any q xs) (any_weaken p q xs each more)
    ]

-- a test that another implies
pub any_link_weaken : (p q : LinkId → Bool) (gs : List (List Member)) → ((d : LinkId) → p d ≡ true → q d ≡ true) → any_link p gs ≡ true → any_link q gs ≡ true
any_link_weaken p q gs each h =
    any_weaken (λ g. list_any (λ m. p m.link) g) (λ g. list_any (λ m. q m.link) g) gs
    (λ g k. any_weaken (λ m. p m.link) (λ m. q m.link) g (λ m pm. each m.link pm) k) h

-- a group with a member whose link isn't failed is active
pub active_by : (fails : List LinkId) (g : List Member) (i : ℕ) (m : Member) → slice_get g i ≡ Some m → has fails m.link ≡ false → is_active fails g ≡ true
active_by fails [] i m s n = cc
active_by fails (x ∷ g) zero m s n = or_left (not (has fails x.link)) (is_active fails g) (let e : x ≡ m = cc in rw e (not_from_false (has fails m.link) n))
active_by fails (x ∷ g) (suc i) m s n = or_right (not (has fails x.link)) (is_active fails g) (active_by fails g i m s n)
