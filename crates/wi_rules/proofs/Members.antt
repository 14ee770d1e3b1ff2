-- Members of tables: their numbers, and what a network keeps of each.
use Rattle.std.proofs.Common.{◌≡◌, ℕ, zero, suc, ◌+◌, ◌≤◌, Bool, true, false, ◌&&◌, nat_lt, nat_le, List, [], ◌∷◌, length, take, slice_get, Option, Some, None, inl, inr, refl, arith, ◌∙◌, zero-add, length-append}
use Rattle.std.specs.List.{list_all}
use Rattle.std.specs.Option.{option_map_or}
use Rattle.std.proofs.lemmas.Bool.{and_parts, leb-true}
use Rattle.wi_labels.specs.declared.label.Label.{Label}
use Rattle.wi_net.specs.declared.parts.RouterId.{RouterId}
use Rattle.wi_net.specs.declared.parts.LinkId.{LinkId}
use Rattle.wi_net.specs.declared.parts.Link.{Link}
use Rattle.wi_net.specs.declared.parts.Member.{Member}
use Rattle.wi_net.specs.declared.parts.TableRow.{TableRow}
use Rattle.wi_net.specs.Tables.{is_row, groups_in, members_of, all_members, group_members, row_members, members_before}
use Rattle.wi_net.specs.Net.{Net, is_link}
use Rattle.wi_net.specs.Network.{IsNetwork, op_known, leaves, is_member_at, is_group_at, is_row_of}
use Rattle.wi_net.proofs.GroupLemmas.{leaves_link}
use Rattle.wi_net.proofs.MemberLemmas.{get_back, members_count}
use Rattle.wi_world.specs.declared.run.Step.{Step}
use Rattle.wi_rules.specs.Rules.{each_at, each_member}
use Rattle.wi_rules.proofs.Lists.{In, in_either, in_each0, each0_in, all_in, get_in, get_left}

-- the number of a member of an entry is its place among all members
in_groups : (groups : List (List Member)) (j i : ℕ) (group : List Member) (member : Member) → slice_get groups j ≡ Some group → slice_get group i ≡ Some member → slice_get (members_of groups) (group_members (take j groups) + i) ≡ Some member
in_groups [] j i group member e f = cc
in_groups (g ∷ groups) zero i group member e f = let same : g ≡ group = cc in rw (zero-add i) (get_left g (members_of groups) i member (rw same f))
in_groups (g ∷ groups) (suc j) i group member e f =
    let place : length g + (group_members (take j groups) + i) ≡ (length g + group_members (take j groups)) + i = omega arith in
    get_back g (members_of groups) ((length g + group_members (take j groups)) + i) (group_members (take j groups) + i) place ∙ in_groups groups j i group member e f

pub member_numbered : (rows : List TableRow) (e : LinkId) (l : Label) (j i : ℕ) (group : List Member) (member : Member) → slice_get (groups_in rows e l) j ≡ Some group → slice_get group i ≡ Some member
    → slice_get (all_members rows) (members_before rows e l + (group_members (take j (groups_in rows e l)) + i)) ≡ Some member
member_numbered [] e l j i group member g f = cc
member_numbered (row ∷ rows) e l j i group member g f = go (is_row e l row) refl (member_numbered rows e l j i group member)
  where
    go : (b : Bool) → is_row e l row ≡ b
        → (slice_get (groups_in rows e l) j ≡ Some group → slice_get group i ≡ Some member → slice_get (all_members rows) (members_before rows e l + (group_members (take j (groups_in rows e l)) + i)) ≡ Some member)
        → slice_get (all_members (row ∷ rows)) (members_before (row ∷ rows) e l + (group_members (take j (groups_in (row ∷ rows) e l)) + i)) ≡ Some member
    go true b ih =
        rw (b, zero-add (group_members (take j row.groups) + i))
        (get_left (members_of row.groups) (all_members rows) (group_members (take j row.groups) + i) member (in_groups row.groups j i group member (rw b at g) f))
    go false b ih =
        let place : length (members_of row.groups) + (members_before rows e l + (group_members (take j (groups_in rows e l)) + i)) ≡ (group_members row.groups + members_before rows e l) + (group_members (take j (groups_in rows e l)) + i) = omega (arith, members_count row.groups) in
        rw b (get_back (members_of row.groups) (all_members rows) ((group_members row.groups + members_before rows e l) + (group_members (take j (groups_in rows e l)) + i)) (members_before rows e l + (group_members (take j (groups_in rows e l)) + i)) place ∙ ih (rw b at g) f)

pub all_count : (rows : List TableRow) → length (all_members rows) ≡ row_members rows
all_count [] = refl
all_count (row ∷ rows) = length-append (members_of row.groups) (all_members rows) ∙ omega (arith, members_count row.groups, all_count rows)

-- what a network keeps of a member
pub record Kept (net : Net) (m : Member) : Type 0 where
  pub link : is_link net m.link ≡ true
  pub few : length m.ops ≤ 8
  pub ops : list_all (op_known net) m.ops ≡ true

kept_member : (net : Net) (router : RouterId) (m : Member) → is_member_at net router m ≡ true → Kept net m
kept_member net router m h =
    let p = and_parts (leaves net router m.link) (nat_le (length m.ops) 8 && list_all (op_known net) m.ops) h in
    let q = and_parts (nat_le (length m.ops) 8) (list_all (op_known net) m.ops) p.1 in
    record { link = leaves_link net router m.link p.0; few = leb-true (length m.ops) 8 q.0; ops = q.1 }

group_of : (gs : List (List Member)) (m : Member) → In (members_of gs) m → (g : List Member) × In gs g × In g m
group_of [] m h = absurd h
group_of (g ∷ gs) m h = elim (in_either g (members_of gs) m h) [ inl a ↦ (g, inl refl, a) | inr b ↦ (let r = group_of gs m b in (r.0, inr r.1, r.2)) ]

kept_row : (net : Net) (row : TableRow) (m : Member) → is_row_of net row ≡ true → In (members_of row.groups) m → Kept net m
kept_row net row m h i = go (slice_get net.links row.link.0) refl
  where
    tables : option_map_or (λ (l : Link). list_all (is_group_at net l.to) row.groups) (slice_get net.links row.link.0) false ≡ true
    tables = (and_parts (nat_lt row.label.0 (length net.labels)) (option_map_or (λ (l : Link). list_all (is_group_at net l.to) row.groups) (slice_get net.links row.link.0) false) h).1

    go : (o : Option Link) → slice_get net.links row.link.0 ≡ o → Kept net m
    go None s = let no : false ≡ true = rw s at tables in cc
    go (Some l) s =
        let groups : list_all (is_group_at net l.to) row.groups ≡ true = rw s at tables in
        let a : (g : List Member) × In row.groups g × In g m = group_of row.groups m i in
        let group : is_group_at net l.to a.0 ≡ true = all_in (is_group_at net l.to) row.groups a.0 groups a.1 in
        let members = (and_parts (nat_lt 0 (length a.0)) (list_all (is_member_at net l.to) a.0) group).1 in
        kept_member net l.to m (all_in (is_member_at net l.to) a.0 m members a.2)

kept_rows : (net : Net) (rows : List TableRow) (m : Member) → list_all (is_row_of net) rows ≡ true → In (all_members rows) m → Kept net m
kept_rows net [] m h i = absurd i
kept_rows net (row ∷ rows) m h i =
    let p = and_parts (is_row_of net row) (list_all (is_row_of net) rows) h in
    elim (in_either (members_of row.groups) (all_members rows) m i) [ inl a ↦ kept_row net row m p.0 a | inr b ↦ kept_rows net rows m p.1 b ]

-- The tables' members go out over links of the network, with at most eight operations, whose labels are the network's.
pub kept : (net : Net) → IsNetwork net → (m : ℕ) (member : Member) → slice_get (all_members net.rows) m ≡ Some member → Kept net member
kept net k m member e = kept_rows net net.rows member k.rows (get_in (all_members net.rows) m member e)

-- what groups have for one of their members
pub in_each_member : {Y : Type 0} (f : Step → Member → List Y) (groups : List (List Member)) (step : Step) (group : List Member) (member : Member) (y : Y)
    → slice_get groups step.group ≡ Some group → slice_get group step.member ≡ Some member → In (f step member) y → In (each_member f groups) y
in_each_member f groups step group member y g m h =
    in_each0 (λ (j : ℕ) (group : List Member). each_at (λ (i : ℕ) (member : Member). f (record { group = j; member = i }) member) 0 group) groups step.group group y g
    (in_each0 (λ (i : ℕ) (member : Member). f (record { group = step.group; member = i }) member) group step.member member y m h)

-- and the member that they have it for
pub record ForMember {Y : Type 0} (f : Step → Member → List Y) (groups : List (List Member)) (y : Y) : Type 0 where
  pub step : Step
  pub group : List Member
  pub member : Member
  pub group_is : slice_get groups step.group ≡ Some group
  pub member_is : slice_get group step.member ≡ Some member
  pub there : In (f step member) y

pub each_member_in : {Y : Type 0} (f : Step → Member → List Y) (groups : List (List Member)) (y : Y) → In (each_member f groups) y → ForMember f groups y
each_member_in f groups y h =
    let a = each0_in (λ (j : ℕ) (group : List Member). each_at (λ (i : ℕ) (member : Member). f (record { group = j; member = i }) member) 0 group) groups y h in
    let b = each0_in (λ (i : ℕ) (member : Member). f (record { group = a.0; member = i }) member) a.1 y a.3 in
    record { step = record { group = a.0; member = b.0 }; group = a.1; member = b.1; group_is = a.2; member_is = b.2; there = b.3 }
