-- The rules of the packet's travel, made by code and of the definitions.
use Rattle.std.proofs.Common.{◌≡◌, ℕ, zero, suc, ◌+◌, ◌<◌, ◌≤◌, ◌^◌, Bool, true, false, ◌&&◌, nat_lt, nat_le, List, [], ◌∷◌, ◌++◌, length, map, take, drop, slice_get, get_or, Option, Some, None, Result, OnOk, refl, sym, ap, ◌∙◌, arith, add-one, append_assoc, append-nil}
use Rattle.std.proofs.lemmas.Bool.{and_parts, and_from, ltb-true, le-leb}
use Rattle.std.proofs.Math.Seq.{take-length}
use Rattle.std.specs.List.{list_all}
use Rattle.std.specs.Option.{option_map_or}
use Rattle.wi_weight.specs.declared.kinds.Pair.{Pair}
use Rattle.wi_weight.specs.declared.kinds.Terms.{Terms}
use Rattle.wi_weight.specs.declared.kinds.Effort.{Effort}
use Rattle.wi_labels.specs.declared.label.Label.{Label}
use Rattle.wi_labels.specs.declared.ops.Op.{Op}
use Rattle.wi_net.specs.declared.parts.Link.{Link}
use Rattle.wi_net.specs.declared.parts.LinkId.{LinkId}
use Rattle.wi_net.specs.declared.parts.Member.{Member}
use Rattle.wi_net.specs.declared.bounds.Bounds.{Bounds}
use Rattle.wi_net.specs.declared.parts.RouterId.{RouterId}
use Rattle.wi_net.specs.declared.parts.TableRow.{TableRow}
use Rattle.wi_net.specs.Net.{Net, before, entry, is_link, risk_count}
use Rattle.wi_net.specs.Network.{IsNetwork, is_group_at, is_member_at, is_row_of, op_known}
use Rattle.wi_net.specs.Tables.{all_members, group_members, groups_in, is_row, members_before, row_members}
use Rattle.wi_net.proofs.GroupLemmas.{all_weaken, entry_known}
use Rattle.wi_net.proofs.MemberLemmas.{get_read}
use Rattle.wi_pds.specs.declared.rule.Word2.{Word2}
use Rattle.wi_pds.specs.declared.rule.Word2.TheVariants.{One}
use Rattle.wi_world.specs.declared.run.Step.{Step}
use Rattle.wi_world.specs.declared.run.End.TheVariants.{Inactive, Undefined}
use Rattle.wi_world.specs.Moves.{before_end, may_be_down as all_may_be_down}
use Rattle.wi_quantity.specs.Weighing.{hop_weight, end_weight, is_way_out, member_in}
use Rattle.wi_quantity.proofs.RiskLemmas.{before_few}
use Rattle.wi_rules.specs.declared.spot.Spot.{Spot}
use Rattle.wi_rules.specs.declared.spot.Spot.TheVariants.{Close}
use Rattle.wi_rules.specs.declared.spot.Origin.TheVariants.{Hop, Ending}
use Rattle.wi_rules.specs.Rules.{SpotRule, each_at, first_word_over, hop_rules, ending, inactive_rules, lost_by, may_use, member_number, on_way, undefined_rules}
use Rattle.wi_rules.proofs.Lists.{all_in, drop_get, get_in, get_below}
use Rattle.wi_rules.proofs.Members.{kept, member_numbered}
use Rattle.wi_build.specs.declared.head.Head.{Head}
use Rattle.wi_build.specs.declared.head.Way.{Way}
use Rattle.wi_build.specs.declared.head.Fate.{Fate}
use Rattle.wi_build.specs.declared.head.Fate.TheVariants.{Travels, Lost}
use Rattle.wi_build.specs.declared.head.Arrival.{Arrival}
use Rattle.wi_build.specs.declared.needs.Needs.{Needs}
use Rattle.wi_build.specs.Problems.{Problem, IsProblem}
use Rattle.wi_build.specs.Encodings.{encoding_of}
use Rattle.wi_build.specs.Systems.{weight}
use Rattle.wi_build.specs.private.Needs.{may_be_down, may_be_up, no_needs, with_groups, with_members}
use Rattle.wi_build.specs.private.Hops.{AreNeeds, IsGroup, IsMember}
use Rattle.wi_build.specs.private.Rows.{member_rules, group_rules, rule_made, rules_for, spot_on, way_through}
use Rattle.wi_build.proofs.NeedsLemmas.{groups_more, groups_stop, needs_count, needs_down, needs_mean, needs_stop}
use Rattle.wi_build.proofs.RowLemmas.{Listing, each_row, none_made, one_made, rules_append}

-- where the first operations of a member lead
way_is : (member : Member) (m i q : ℕ) → spot_on (way_through member m i) q ≡ on_way member m i q
way_is member m i q = go (nat_lt i (length member.ops)) refl
  where
    go : (b : Bool) → nat_lt i (length member.ops) ≡ b → spot_on (way_through member m i) q ≡ on_way member m i q
    go true e = rw e refl
    go false e = rw e refl

-- what a network keeps of a member's operations
pub ops_kept : (net : Net) (m : ℕ) (member : Member) → IsNetwork net → slice_get (all_members net.rows) m ≡ Some member → list_all (op_known net) member.ops ≡ true
ops_kept net m member k e = (kept net k m member e).ops

pub op_kept : (net : Net) (ops : List Op) (i : ℕ) (op : Op) → list_all (op_known net) ops ≡ true → slice_get ops i ≡ Some op → op_known net op ≡ true
op_kept net ops i op k e = all_in (op_known net) ops op k (get_in ops i op e)

-- groups are not empty, so there are no more groups than members
full_groups : (net : Net) (rows : List TableRow) (e : LinkId) (l : Label) → list_all (is_row_of net) rows ≡ true → list_all (λ (g : List Member). nat_lt 0 (length g)) (groups_in rows e l) ≡ true
full_groups net [] e l k = refl
full_groups net (row ∷ rows) e l k = go (is_row e l row) refl (full_groups net rows e l)
  where
    parts : (is_row_of net row ≡ true) × (list_all (is_row_of net) rows ≡ true)
    parts = and_parts (is_row_of net row) (list_all (is_row_of net) rows) k

    tables : option_map_or (λ (x : Link). list_all (is_group_at net x.to) row.groups) (slice_get net.links row.link.0) false ≡ true
    tables = (and_parts (nat_lt row.label.0 (length net.labels)) (option_map_or (λ (x : Link). list_all (is_group_at net x.to) row.groups) (slice_get net.links row.link.0) false) parts.0).1

    full : (r : RouterId) (g : List Member) → is_group_at net r g ≡ true → nat_lt 0 (length g) ≡ true
    full r g h = (and_parts (nat_lt 0 (length g)) (list_all (is_member_at net r) g) h).0

    here : (o : Option Link) → slice_get net.links row.link.0 ≡ o → list_all (λ (g : List Member). nat_lt 0 (length g)) row.groups ≡ true
    here None s = let no : false ≡ true = rw s at tables in cc
    here (Some x) s = all_weaken (is_group_at net x.to) (λ (g : List Member). nat_lt 0 (length g)) row.groups (full x.to) (rw s at tables)

    go : (b : Bool) → is_row e l row ≡ b → (list_all (is_row_of net) rows ≡ true → list_all (λ (g : List Member). nat_lt 0 (length g)) (groups_in rows e l) ≡ true)
        → list_all (λ (g : List Member). nat_lt 0 (length g)) (groups_in (row ∷ rows) e l) ≡ true
    go true b ih = rw b (here (slice_get net.links row.link.0) refl)
    go false b ih = rw b (ih parts.1)

no_more_groups : (gs : List (List Member)) → list_all (λ (g : List Member). nat_lt 0 (length g)) gs ≡ true → length gs ≤ group_members gs
no_more_groups [] k = omega arith
no_more_groups (g ∷ gs) k =
    let parts = and_parts (nat_lt 0 (length g)) (list_all (λ (x : List Member). nat_lt 0 (length x)) gs) k in
    let one = ltb-true 0 (length g) parts.0 in
    let rest = no_more_groups gs parts.1 in
    omega (arith, one, rest)

pub members_within : (rows : List TableRow) (e : LinkId) (l : Label) → members_before rows e l + group_members (groups_in rows e l) ≤ row_members rows
members_within [] e l = omega arith
members_within (row ∷ rows) e l = go (is_row e l row) refl (members_within rows e l)
  where
    go : (b : Bool) → is_row e l row ≡ b → members_before rows e l + group_members (groups_in rows e l) ≤ row_members rows → members_before (row ∷ rows) e l + group_members (groups_in (row ∷ rows) e l) ≤ row_members (row ∷ rows)
    go true b ih = rw b (omega arith)
    go false b ih = rw b (omega (arith, ih))

-- the members of the groups up to one, and of that one
group_within : (gs : List (List Member)) (j : ℕ) (g : List Member) → slice_get gs j ≡ Some g → group_members (take j gs) + length g ≤ group_members gs
group_within [] j g e = cc
group_within (x ∷ gs) zero g e = let same : x ≡ g = cc in omega (arith, ap length same)
group_within (x ∷ gs) (suc j) g e = omega (arith, group_within gs j g e)

-- a group of an entry has room
pub record HasRoom (problem : Problem) (at : Arrival) (j first : ℕ) (members : List Member) : Type 0 where
  pub few_groups : j < 400000
  pub few_members : first + length members ≤ 400000

pub group_room : (problem : Problem) (at : Arrival) (j first : ℕ) (members : List Member) → IsNetwork problem.net → IsGroup problem at j first members → HasRoom problem at j first members
group_room problem at j first members k i = record {
  few_groups = omega (arith, get_below (entry problem.net at.link at.top) j members i.group, no_more_groups (entry problem.net at.link at.top) (full_groups problem.net problem.net.rows at.link at.top k.rows), members_within problem.net.rows at.link at.top, k.few_members);
  few_members = omega (arith, i.first_is, group_within (entry problem.net at.link at.top) j members i.group, members_within problem.net.rows at.link at.top, k.few_members);
}

-- a member of an entry stands in one of its groups
pub member_there : (gs : List (List Member)) (j i : ℕ) (member : Member) → member_in gs j i ≡ Some member → (g : List Member) × (slice_get gs j ≡ Some g) × (slice_get g i ≡ Some member)
member_there gs j i member e = go (slice_get gs j) refl
  where
    go : (o : Option (List Member)) → slice_get gs j ≡ o → (g : List Member) × (slice_get gs j ≡ Some g) × (slice_get g i ≡ Some member)
    go None s = let no : None ≡ Some member = rw s at e in cc
    go (Some g) s = (g, s, rw s at e)

-- what is known of it
pub record IsKnown (problem : Problem) (step : Step) (member : Member) : Type 0 where
  pub group : step.group < 1073741824
  pub place : step.member < 1073741824
  pub link : is_link problem.net member.link ≡ true
  pub way : is_way_out problem.net member ≡ true
  pub ops : list_all (op_known problem.net) member.ops ≡ true

pub member_known : (problem : Problem) (at : Arrival) (step : Step) (number : ℕ) (member : Member) → IsNetwork problem.net → IsMember problem at step number member → IsKnown problem step member
member_known problem at step number member k i =
    let found = member_there (entry problem.net at.link at.top) step.group step.member member i.there in
    let room : HasRoom problem at step.group (members_before problem.net.rows at.link at.top + group_members (take step.group (entry problem.net at.link at.top))) found.0 =
    group_room problem at step.group (members_before problem.net.rows at.link at.top + group_members (take step.group (entry problem.net at.link at.top))) found.0 k (record { group = found.1; first_is = refl }) in
    let keeps = kept problem.net k (members_before problem.net.rows at.link at.top + (group_members (take step.group (entry problem.net at.link at.top)) + step.member)) member (member_numbered problem.net.rows at.link at.top step.group step.member found.0 member found.1 found.2) in
    let below = get_below found.0 step.member member found.2 in
    record {
      group = omega (arith, room.few_groups);
      place = omega (arith, room.few_members, below);
      link = keeps.link;
      way = and_from (is_link problem.net member.link) (nat_le (length member.ops) 8) keeps.link (le-leb (length member.ops) 8 keeps.few);
      ops = keeps.ops;
    }

pub cons_same : {X : Type 0} {x y : X} {xs ys : List X} → x ≡ y → xs ≡ ys → x ∷ xs ≡ y ∷ ys
cons_same first rest = cc

-- the rule of a member of an entry for a state
abbrev pub hop_rule : Problem → Arrival → Step → Member → Word2 → ℕ → SpotRule
hop_rule problem at step member word r = record {
  to = on_way member (member_number problem.net at.link at.top step) 1 r;
  word = word;
  share = (encoding_of problem).step_share at.link at.top step;
  origin = Hop step;
}

-- the rules of the groups of an entry from one on
abbrev pub later_rules : Problem → Arrival → Fate → ℕ → List SpotRule
later_rules problem at fate j = each_at (group_rules (encoding_of problem) at fate) j (drop j (entry problem.net at.link at.top))

module _ (problem : Problem) (at : Arrival) (needs : Needs) (step : Step) (number : ℕ) (member : Member) (k : IsProblem problem) (n : AreNeeds problem at needs step.group) (i : IsMember problem at step number member) where
  known : IsKnown problem step member
  known = member_known problem at step number member k.network i

  may_use_is : may_use problem.net problem.bounds (entry problem.net at.link at.top) step.group member.link ≡ may_be_up problem.net problem.bounds needs member.link
  may_use_is =
      needs_mean problem.net problem.bounds (entry problem.net at.link at.top) step.group member.link k.network k.bounds_of (entry_known problem.net at.link at.top k.network) known.link
      ∙ ap (λ (x : Needs). may_be_down problem.bounds x && may_be_up problem.net problem.bounds x member.link) (sym n.are)
      ∙ ap (λ b. b && may_be_up problem.net problem.bounds needs member.link) n.down

  -- no rule, where the member's link may not be up
  pub no_member : (fate : Fate) (b : Bool) → b ≡ may_be_up problem.net problem.bounds needs member.link → b ≡ false → member_rules (encoding_of problem) at fate step member ≡ []
  no_member Travels b same no_way = rw (may_use_is ∙ sym same ∙ no_way) refl
  no_member Lost b same no_way = rw (may_use_is ∙ sym same ∙ no_way) refl

  pub taken : (b : Bool) → b ≡ may_be_up problem.net problem.bounds needs member.link → b ≡ true → may_use problem.net problem.bounds (entry problem.net at.link at.top) step.group member.link ≡ true
  taken b same way = may_use_is ∙ sym same ∙ way

  count_is : risk_count problem.net (before problem.net (entry problem.net at.link at.top) step.group) ≡ length needs.risks
  count_is = needs_count problem.net problem.bounds (entry problem.net at.link at.top) step.group k.network k.bounds_of (entry_known problem.net at.link at.top k.network) ∙ ap (λ (x : Needs). length x.risks) (sym n.are)

  pub needs_few : length needs.risks < 2 ^ 32
  needs_few = omega (arith, count_is, before_few problem.net (entry problem.net at.link at.top) step.group k.network)

  -- or else one for each state that comes after by the member's link
  pub hop_row : (head : Head) (word : Word2) (w : Pair Terms Effort) (failures : ℕ) (through : Way) (qs : List ℕ) (old new : Listing) → may_use problem.net problem.bounds (entry problem.net at.link at.top) step.group member.link ≡ true → first_word_over problem.net member.ops at.top.0 ≡ Some word
      → failures ≡ length needs.risks → w ≡ weight (take 5 (hop_weight problem.net problem.vector member failures) ++ 1 ∷ []) → qs ≡ (encoding_of problem).path.next at.state member.link.0
      → through ≡ way_through member number 1 → new ≡ old ++ map (λ r. rule_made (encoding_of problem) head (spot_on through r) (record { word = word; weight = w; origin = Hop step })) qs
      → new ≡ old ++ rules_for (encoding_of problem) head (hop_rules (encoding_of problem) at.link at.state at.top step member)
  hop_row head word w failures through qs old new usable fw fails we states way put =
      each_row (encoding_of problem) head (way_through member number 1) (record { word = word; weight = w; origin = Hop step }) (take 5 (hop_weight problem.net problem.vector member failures)) qs ((encoding_of problem).path.next at.state member.link.0) old new
      (hop_rules (encoding_of problem) at.link at.state at.top step member) we states put' rules_are
    where
      put' : new ≡ old ++ map (λ r. rule_made (encoding_of problem) head (spot_on (way_through member number 1) r) (record { word = word; weight = w; origin = Hop step })) qs
      put' = put ∙ ap (λ x. old ++ map (λ r. rule_made (encoding_of problem) head (spot_on x r) (record { word = word; weight = w; origin = Hop step })) qs) way

      share : (encoding_of problem).step_share at.link at.top step ≡ take 5 (hop_weight problem.net problem.vector member failures)
      share = rw i.there (ap (λ m. take 5 (hop_weight problem.net problem.vector member m)) (count_is ∙ sym fails))

      each : (rs : List ℕ) → map (λ r. hop_rule problem at step member word r) rs ≡ map (λ r. record { to = spot_on (way_through member number 1) r; word = word; share = take 5 (hop_weight problem.net problem.vector member failures); origin = Hop step }) rs
      each [] = refl
      each (r ∷ rs) = cons_same one (each rs)
        where
          to_is : on_way member (member_number problem.net at.link at.top step) 1 r ≡ spot_on (way_through member number 1) r
          to_is = ap (λ m. on_way member m 1 r) (sym i.number_is) ∙ sym (way_is member number 1 r)

          one : hop_rule problem at step member word r ≡ record { to = spot_on (way_through member number 1) r; word = word; share = take 5 (hop_weight problem.net problem.vector member failures); origin = Hop step }
          one = cc (to_is, share)

      rules_are : hop_rules (encoding_of problem) at.link at.state at.top step member ≡ map (λ r. record { to = spot_on (way_through member number 1) r; word = word; share = take 5 (hop_weight problem.net problem.vector member failures); origin = Hop step }) ((encoding_of problem).path.next at.state member.link.0)
      rules_are = rw (usable, fw) (each ((encoding_of problem).path.next at.state member.link.0))

  -- the rule of a packet that is dropped on the way through the member, by the first operation
  pub lost_row : (head : Head) (to : Spot) (word : Word2) (w : Pair Terms Effort) (failures : ℕ) (old new : Listing) → may_use problem.net problem.bounds (entry problem.net at.link at.top) step.group member.link ≡ true → lost_by problem.net member.ops number 0 at.top.0 ≡ Some (to, word)
      → failures ≡ length needs.risks → w ≡ weight (take 5 (end_weight problem.vector failures) ++ 1 ∷ []) → new ≡ old ++ rule_made (encoding_of problem) head to (record { word = word; weight = w; origin = Ending (Undefined step) }) ∷ []
      → new ≡ old ++ rules_for (encoding_of problem) head (undefined_rules (encoding_of problem) at.link at.top step member)
  lost_row head to word w failures old new usable way fails we put =
      put
      ∙ ap (λ r. old ++ r ∷ []) (one_made (encoding_of problem) head to (record { word = word; weight = w; origin = Ending (Undefined step) }) (take 5 (end_weight problem.vector failures)) we)
      ∙ ap (λ rs. old ++ rules_for (encoding_of problem) head rs) (sym rules_are)
    where
      way_there : lost_by problem.net member.ops (member_number problem.net at.link at.top step) 0 at.top.0 ≡ Some (to, word)
      way_there = ap (λ (n : ℕ). lost_by problem.net member.ops n 0 at.top.0) (sym i.number_is) ∙ way

      rules_are : undefined_rules (encoding_of problem) at.link at.top step member ≡ record { to = to; word = word; share = take 5 (end_weight problem.vector failures); origin = Ending (Undefined step) } ∷ []
      rules_are = rw (usable, way_there) (ap (λ (n : ℕ). record { to = to; word = word; share = take 5 (end_weight problem.vector n); origin = Ending (Undefined step) } ∷ []) (count_is ∙ sym fails))

-- what must have failed for no group to be active
module _ (problem : Problem) (at : Arrival) (needs : Needs) (k : IsProblem problem) (are : needs ≡ with_groups problem.net problem.bounds no_needs (entry problem.net at.link at.top)) where
  of_all : with_groups problem.net problem.bounds no_needs (take (length (entry problem.net at.link at.top)) (entry problem.net at.link at.top)) ≡ needs
  of_all = ap (λ gs. with_groups problem.net problem.bounds no_needs gs) (take-length (entry problem.net at.link at.top)) ∙ sym are

  pub all_down : all_may_be_down problem.net problem.bounds (before problem.net (entry problem.net at.link at.top) (length (entry problem.net at.link at.top))) ≡ may_be_down problem.bounds needs
  all_down =
      needs_down problem.net problem.bounds (entry problem.net at.link at.top) (length (entry problem.net at.link at.top)) k.network k.bounds_of (entry_known problem.net at.link at.top k.network)
      ∙ ap (λ (x : Needs). may_be_down problem.bounds x) of_all

  pub all_count : length needs.risks ≡ risk_count problem.net (before_end problem.net (entry problem.net at.link at.top) Inactive)
  all_count =
      ap (λ (x : Needs). length x.risks) (sym of_all)
      ∙ sym (needs_count problem.net problem.bounds (entry problem.net at.link at.top) (length (entry problem.net at.link at.top)) k.network k.bounds_of (entry_known problem.net at.link at.top k.network))

  -- no rule, where they may not be down at once, or else one
  pub no_inactive : (head : Head) (b : Bool) (old : Listing) → b ≡ may_be_down problem.bounds needs → b ≡ false → old ≡ old ++ rules_for (encoding_of problem) head (inactive_rules (encoding_of problem) at.link at.top)
  no_inactive head b old same no_way = none_made (encoding_of problem) head old (inactive_rules (encoding_of problem) at.link at.top) (rw (all_down ∙ sym same ∙ no_way) refl)

  pub inactive_row : {A E : Type 0} (head : Head) (b : Bool) (r : Result A E) (old new : Listing) → b ≡ may_be_down problem.bounds needs → b ≡ true
      → OnOk r (new ≡ old ++ rules_for (encoding_of problem) head (ending (encoding_of problem) at.link at.top Inactive (Close 0) (One (suc at.top.0)) ∷ []))
      → OnOk r (new ≡ old ++ rules_for (encoding_of problem) head (inactive_rules (encoding_of problem) at.link at.top))
  inactive_row head b r old new same way put =
      let one : inactive_rules (encoding_of problem) at.link at.top ≡ ending (encoding_of problem) at.link at.top Inactive (Close 0) (One (suc at.top.0)) ∷ [] = rw (all_down ∙ sym same ∙ way) refl in
      rw one put

-- what code reads at a place of a list
read_there : {X : Type 0} (xs ys : List X) (j : ℕ) (x y : X) → xs ≡ ys → j < length xs → x ≡ get_or xs j x → y ≡ x → slice_get ys j ≡ Some y
read_there xs ys j x y same lt is eq = ap (λ z. slice_get z j) (sym same) ∙ get_read xs j x lt is ∙ ap Some (sym eq)

pub entry_read : (problem : Problem) (at : Arrival) (net : Net) (items : List (List Member)) (j : ℕ) (g members : List Member) → items ≡ entry net at.link at.top → net ≡ problem.net → j < length items → g ≡ get_or items j g → members ≡ g
    → slice_get (entry problem.net at.link at.top) j ≡ Some members
entry_read problem at net items j g members are same lt is eq = read_there items (entry problem.net at.link at.top) j g members (are ∙ ap (λ (n : Net). entry n at.link at.top) same) lt is eq

-- what is left of a list from a place on
pub drop_there : {X : Type 0} (xs : List X) (j : ℕ) (x : X) → slice_get xs j ≡ Some x → drop j xs ≡ x ∷ drop (suc j) xs
drop_there [] j x e = cc
drop_there (y ∷ xs) zero x e = let same : y ≡ x = cc in ap (λ z. z ∷ xs) same
drop_there (y ∷ xs) (suc j) x e = drop_there xs j x e

-- a member of a group, by its number
pub member_of_group : (problem : Problem) (at : Arrival) (j first i : ℕ) (members : List Member) (member : Member) → IsGroup problem at j first members → i < length members → member ≡ get_or members i member
    → IsMember problem at (record { group = j; member = i }) (first + i) member
member_of_group problem at j first i members member k lt is = record {
  there = rw k.group (get_read members i member lt is);
  number_is = ap (λ n. n + i) k.first_is ∙ omega arith;
}

-- one group more
module _ (problem : Problem) (at : Arrival) (j : ℕ) (members : List Member) (there : slice_get (entry problem.net at.link at.top) j ≡ Some members) where
  more_members : (gs : List (List Member)) (i : ℕ) → slice_get gs i ≡ Some members → group_members (take (suc i) gs) ≡ group_members (take i gs) + length members
  more_members [] i e = cc
  more_members (g ∷ gs) zero e = let same : g ≡ members = cc in omega (arith, ap length same)
  more_members (g ∷ gs) (suc i) e = omega (arith, more_members gs i e)

  pub next_first : (first : ℕ) → first ≡ members_before problem.net.rows at.link at.top + group_members (take j (entry problem.net at.link at.top))
      → first + length members ≡ members_before problem.net.rows at.link at.top + group_members (take (j + 1) (entry problem.net at.link at.top))
  next_first first e = rw add-one (omega (arith, e, more_members (entry problem.net at.link at.top) j there))

  pub next_needs : (net : Net) (bounds : Bounds) (needs new : Needs) → net ≡ problem.net → bounds ≡ problem.bounds → needs ≡ with_groups problem.net problem.bounds no_needs (take j (entry problem.net at.link at.top)) → new ≡ with_members net bounds needs members
      → new ≡ with_groups problem.net problem.bounds no_needs (take (j + 1) (entry problem.net at.link at.top))
  next_needs net bounds needs new same limits are put =
      rw add-one (put
      ∙ ap (λ (n : Net). with_members n bounds needs members) same
      ∙ ap (λ (b : Bounds). with_members problem.net b needs members) limits
      ∙ ap (λ (n : Needs). with_members problem.net problem.bounds n members) are
      ∙ sym (groups_more problem.net problem.bounds (entry problem.net at.link at.top) j members (drop (suc j) (entry problem.net at.link at.top)) (drop_there (entry problem.net at.link at.top) j members there)))

  pub next_rules : (fate : Fate) (head : Head) (now new whole : Listing) → now ++ rules_for (encoding_of problem) head (later_rules problem at fate j) ≡ whole → new ≡ now ++ rules_for (encoding_of problem) head (group_rules (encoding_of problem) at fate j members)
      → new ++ rules_for (encoding_of problem) head (later_rules problem at fate (j + 1)) ≡ whole
  next_rules fate head now new whole before put =
      ap (λ t. t ++ rules_for (encoding_of problem) head (later_rules problem at fate (j + 1))) put
      ∙ append_assoc now (rules_for (encoding_of problem) head (group_rules (encoding_of problem) at fate j members)) (rules_for (encoding_of problem) head (later_rules problem at fate (j + 1)))
      ∙ ap (λ t. now ++ t) (sym (rules_append (encoding_of problem) head (group_rules (encoding_of problem) at fate j members) (later_rules problem at fate (j + 1))) ∙ ap (rules_for (encoding_of problem) head) (sym here))
      ∙ before
    where
      here : later_rules problem at fate j ≡ group_rules (encoding_of problem) at fate j members ++ later_rules problem at fate (j + 1)
      here = rw (drop_there (entry problem.net at.link at.top) j members there, add-one) refl

-- no rule of later groups, where what they need may not be down at once
stopped : (problem : Problem) (at : Arrival) (fate : Fate) (i : ℕ) (gs : List (List Member)) → IsProblem problem → drop i (entry problem.net at.link at.top) ≡ gs → may_be_down problem.bounds (with_groups problem.net problem.bounds no_needs (take i (entry problem.net at.link at.top))) ≡ false
    → each_at (group_rules (encoding_of problem) at fate) i gs ≡ []
stopped problem at fate i [] k e h = refl
stopped problem at fate i (g ∷ gs) k e h =
    rw (none g 0) (rw add-one (stopped problem at fate (suc i) gs k (drop_get (entry problem.net at.link at.top) i g gs e).1 (groups_stop problem.net problem.bounds (entry problem.net at.link at.top) i g gs e h)))
  where
    no_use : (link : LinkId) → may_use problem.net problem.bounds (entry problem.net at.link at.top) i link ≡ false
    no_use link = needs_stop problem.net problem.bounds (entry problem.net at.link at.top) i link k.network k.bounds_of (entry_known problem.net at.link at.top k.network) h

    no_rule : (f : Fate) (n : ℕ) (m : Member) → member_rules (encoding_of problem) at f (record { group = i; member = n }) m ≡ []
    no_rule Travels n m = rw (no_use m.link) refl
    no_rule Lost n m = rw (no_use m.link) refl

    none : (ms : List Member) (n : ℕ) → each_at (λ m member. member_rules (encoding_of problem) at fate (record { group = i; member = m }) member) n ms ≡ []
    none [] n = refl
    none (m ∷ ms) n = rw (no_rule fate n m) (none ms (n + 1))

pub stop_there : (problem : Problem) (at : Arrival) (fate : Fate) (j : ℕ) (needs : Needs) (b : Bool) (head : Head) (now whole : Listing) → IsProblem problem → needs ≡ with_groups problem.net problem.bounds no_needs (take j (entry problem.net at.link at.top)) → b ≡ may_be_down problem.bounds needs → b ≡ false
    → now ++ rules_for (encoding_of problem) head (later_rules problem at fate j) ≡ whole → now ≡ whole
stop_there problem at fate j needs b head now whole k are same no_more left =
    sym (append-nil now)
    ∙ ap (λ rs. now ++ rules_for (encoding_of problem) head rs) (sym (stopped problem at fate j (drop j (entry problem.net at.link at.top)) k refl (ap (may_be_down problem.bounds) (sym are) ∙ sym same ∙ no_more)))
    ∙ left
