-- The kinds of rules that there are, one by one: what holds of each kind holds of each rule.
use Rattle.std.proofs.Common.{◌≡◌, ℕ, zero, suc, ◌+◌, ◌<◌, not, List, [], ◌∷◌, length, map, slice_get, Some, ap, subst, arith, inl, inr}
use Rattle.std.specs.List.{filter, flat_map, range_with_len}
use Rattle.std.specs.Option.{option_map_or}
use Rattle.wi_labels.specs.declared.label.Label.{Label}
use Rattle.wi_net.specs.declared.parts.LinkId.{LinkId}
use Rattle.wi_net.specs.declared.parts.Member.{Member}
use Rattle.wi_net.specs.LinkSet.{has, links_from}
use Rattle.wi_net.specs.Net.{entry, links_where}
use Rattle.wi_net.specs.Tables.{all_members}
use Rattle.wi_pds.specs.declared.rule.Word2.{Word2}
use Rattle.wi_pds.specs.declared.rule.Word2.TheVariants.{Empty, One}
use Rattle.wi_world.specs.declared.run.Step.{Step}
use Rattle.wi_world.specs.declared.run.End.TheVariants.{Arrives, Inactive, Undefined}
use Rattle.wi_rules.specs.declared.spot.Origin.TheVariants.{SetOut}
use Rattle.wi_rules.specs.declared.spot.Spot.{Spot}
use Rattle.wi_rules.specs.declared.spot.Spot.TheVariants.{Start, Done, Build, Close, OnLink, Mid, Drop}
use Rattle.wi_rules.specs.Rules.{SpotRule, build_rules, end_rules, ending, entry_rules, is_label, lost_by, lost_rules, may_build, next_op_rules, on_link_rules, on_way, plain, pushing, rules_of, set_out_rules, working, word_over}
use Rattle.wi_rules.specs.Numbers.{Fits, layout_of}
use Rattle.wi_rules.proofs.HopRun.{entry_in}
use Rattle.wi_rules.proofs.Ending.{end_in}
use Rattle.wi_rules.proofs.Lists.{In, filter_in, flat_in, get_below, if_in, in_either, map_in, one_in, option_in, range_in}
use Rattle.wi_build.specs.declared.head.Arrival.{Arrival}
use Rattle.wi_build.specs.Problems.{Problem, IsProblem}
use Rattle.wi_build.specs.Encodings.{encoding_of}
use Rattle.wi_build.proofs.Sound.{sound}
use Rattle.wi_build.proofs.HopLemmas.{hop_rule}

-- a rule that sets out on a link
abbrev pub first_rule : Problem → LinkId → ℕ → ℕ → SpotRule
first_rule problem e n q = record { to = OnLink e q; word = One (suc n); share = (encoding_of problem).first_share e; origin = SetOut e }

-- a step names a member of an entry
abbrev pub IsListed : Problem → LinkId → Label → Step → Type 0
IsListed problem e l step = (group : List Member) × (member : Member) × (slice_get (entry problem.net e l) step.group ≡ Some group) × (slice_get group step.member ≡ Some member)

-- something holds of each kind
pub record OfKinds (problem : Problem) (P : SpotRule → Type 0) : Type 0 where
  pub plains : (to : Spot) (word : Word2) → P (plain (encoding_of problem) to word)
  pub pushes : (l g q : ℕ) → l < length problem.net.classes → P (pushing (encoding_of problem) l g q)
  pub firsts : (e : LinkId) (n q : ℕ) → e.0 < length problem.net.links → P (first_rule problem e n q)
  pub hops : (at : Arrival) (step : Step) (q : ℕ) (member : Member) (word : Word2) → IsListed problem at.link at.top step → P (hop_rule problem at step member word q)
  pub arrivals : (e : LinkId) (l : Label) (to : Spot) (word : Word2) → P (ending (encoding_of problem) e l Arrives to word)
  pub inactives : (e : LinkId) (l : Label) (to : Spot) (word : Word2) → P (ending (encoding_of problem) e l Inactive to word)
  pub undefineds : (e : LinkId) (l : Label) (step : Step) (to : Spot) (word : Word2) → IsListed problem e l step → P (ending (encoding_of problem) e l (Undefined step) to word)
  pub operations : (m i : ℕ) (to : Spot) (word : Word2) → m < length (all_members problem.net.rows) → i < 8 → P (working (encoding_of problem) m i to word)

module _ (problem : Problem) (k : IsProblem problem) (P : SpotRule → Type 0) (each : OfKinds problem P) where
  start_kind : (r : SpotRule) → In (rules_of (encoding_of problem) Start 0) r → P r
  start_kind r h =
      let found = map_in (λ q. plain (encoding_of problem) (Build q) (One 0)) (filter (λ q. (encoding_of problem).first.accepts q) (range_with_len 0 (encoding_of problem).first.states)) r h in
      subst P found.2 (each.plains (Build found.0) (One 0))

  build_kind : (q g : ℕ) (r : SpotRule) → In (flat_map (build_rules (encoding_of problem) q g) (range_with_len 0 (length problem.net.classes))) r → P r
  build_kind q g r h =
      let label = flat_in (build_rules (encoding_of problem) q g) (range_with_len 0 (length problem.net.classes)) r h in
      let below : label.0 < 0 + length problem.net.classes = range_in 0 (length problem.net.classes) label.0 label.1 in
      let there = if_in (may_build problem.net label.0 g) (map (λ p. pushing (encoding_of problem) label.0 g p) ((encoding_of problem).first_before q label.0)) r label.2 in
      let found = map_in (λ p. pushing (encoding_of problem) label.0 g p) ((encoding_of problem).first_before q label.0) r there.1 in
      subst P found.2 (each.pushes label.0 g found.0 (omega (arith, below)))

  set_out_kind : (n : ℕ) (r : SpotRule) → In (flat_map (set_out_rules (encoding_of problem) n) (links_where problem.net (λ e. not (has problem.bounds.down e)))) r → P r
  set_out_kind n r h =
      let link = flat_in (set_out_rules (encoding_of problem) n) (links_where problem.net (λ e. not (has problem.bounds.down e))) r h in
      let listed = filter_in (λ e. not (has problem.bounds.down e)) (links_from 0 (length problem.net.links)) link.0 link.1 in
      let number = map_in (λ i. record { 0 = i }) (range_with_len 0 (length problem.net.links)) link.0 listed.0 in
      let below : number.0 < 0 + length problem.net.links = range_in 0 (length problem.net.links) number.0 number.1 in
      let is : number.0 ≡ link.0.0 = ap (λ (e : LinkId). e.0) number.2 in
      let found = map_in (λ q. first_rule problem link.0 n q) ((encoding_of problem).path.next 0 link.0.0) r link.2 in
      subst P found.2 (each.firsts link.0 n found.0 (omega (arith, below, is)))

  hop_kind : (at : Arrival) (r : SpotRule) → In (entry_rules (encoding_of problem) at.link at.state at.top) r → P r
  hop_kind at r h =
      let a = entry_in (encoding_of problem) (sound problem k) at.link at.state at.top r h in
      subst P a.is (each.hops at a.step a.to a.names.member a.word (a.names.group, a.names.member, a.names.group_is, a.names.member_is))

  end_kind : (e : LinkId) (l : Label) (r : SpotRule) → In (end_rules (encoding_of problem) e l) r → P r
  end_kind e l r h =
      elim (end_in (encoding_of problem) (sound problem k) e l r h) [
        | inl a ↦ subst P a.is (each.arrivals e l (Close 0) (One (suc l.0)))
        | inr (inl a) ↦ subst P a.is (each.inactives e l (Close 0) (One (suc l.0)))
        | inr (inr a) ↦ subst P a.is (each.undefineds e l a.step a.way.0 a.way.1 (a.names.group, a.names.member, a.names.group_is, a.names.member_is))
      ]

  on_link_kind : (at : Arrival) (r : SpotRule) → In (on_link_rules (encoding_of problem) at.link at.state at.top) r → P r
  on_link_kind at r h =
      elim (in_either (entry_rules (encoding_of problem) at.link at.state at.top) _ r h) [
        | inl a ↦ hop_kind at r a
        | inr b ↦ end_kind at.link at.top r (if_in ((encoding_of problem).path.accepts at.state) (end_rules (encoding_of problem) at.link at.top) r b).1
      ]

  operation_kind : (m i q n : ℕ) (r : SpotRule) → i < 8 → In (option_map_or (next_op_rules (encoding_of problem) m i q n) (slice_get (all_members problem.net.rows) m) []) r → P r
  operation_kind m i q n r few h =
      let member = option_in (next_op_rules (encoding_of problem) m i q n) (slice_get (all_members problem.net.rows) m) r h in
      let below = get_below (all_members problem.net.rows) m member.0 member.1 in
      let op = option_in (λ op. option_map_or (λ word. working (encoding_of problem) m i (on_way member.0 m (suc i) q) word ∷ []) (word_over problem.net op n) []) (slice_get member.0.ops i) r member.2 in
      let word = option_in (λ word. working (encoding_of problem) m i (on_way member.0 m (suc i) q) word ∷ []) (word_over problem.net op.0 n) r op.2 in
      subst P (one_in (working (encoding_of problem) m i (on_way member.0 m (suc i) q) word.0) r word.2) (each.operations m i (on_way member.0 m (suc i) q) word.0 below few)

  dropping_kind : (m i n : ℕ) (r : SpotRule) → i < 8 → In (option_map_or (lost_rules (encoding_of problem) m i n) (slice_get (all_members problem.net.rows) m) []) r → P r
  dropping_kind m i n r few h =
      let member = option_in (lost_rules (encoding_of problem) m i n) (slice_get (all_members problem.net.rows) m) r h in
      let below = get_below (all_members problem.net.rows) m member.0 member.1 in
      let way = option_in (λ (way : Spot × Word2). working (encoding_of problem) m i way.0 way.1 ∷ []) (lost_by problem.net member.0.ops m i n) r member.2 in
      subst P (one_in (working (encoding_of problem) m i way.0.0 way.0.1) r way.2) (each.operations m i way.0.0 way.0.1 below few)

  close_kind : (n q : ℕ) (r : SpotRule) → In (rules_of (encoding_of problem) (Close q) (suc n)) r → P r
  close_kind n q r h =
      let there = if_in _ (map (λ p. plain (encoding_of problem) (Close p) Empty) ((encoding_of problem).last.next q n)) r h in
      let found = map_in (λ p. plain (encoding_of problem) (Close p) Empty) ((encoding_of problem).last.next q n) r there.1 in
      subst P found.2 (each.plains (Close found.0) Empty)

  done_kind : (q : ℕ) (r : SpotRule) → In (rules_of (encoding_of problem) (Close q) 0) r → P r
  done_kind q r h =
      let there = if_in ((encoding_of problem).last.accepts q) (plain (encoding_of problem) Done Empty ∷ []) r h in
      subst P (one_in (plain (encoding_of problem) Done Empty) r there.1) (each.plains Done Empty)

  pub all_kind : (p : Spot) (g : ℕ) (r : SpotRule) → Fits (layout_of (encoding_of problem)) p → In (rules_of (encoding_of problem) p g) r → P r
  all_kind Start zero r f h = start_kind r h
  all_kind (Build (suc q)) g r f h = build_kind (suc q) g r h
  all_kind (Build zero) (suc n) r f h = set_out_kind n r (if_in _ _ r h).1
  all_kind (OnLink e q) (suc n) r f h = on_link_kind (record { link = e; state = q; top = record { 0 = n } }) r (if_in _ _ r h).1
  all_kind (Mid m (suc i) q) (suc n) r f h = operation_kind m (suc i) q n r f.2 h
  all_kind (Drop m (suc i)) (suc n) r f h =
      dropping_kind m (suc i) n r f.3 (if_in (is_label problem.net n) (option_map_or (lost_rules (encoding_of problem) m (suc i) n) (slice_get (all_members problem.net.rows) m) []) r h).1
  all_kind (Close q) (suc n) r f h = close_kind n q r h
  all_kind (Close q) zero r f h = done_kind q r h
  all_kind _ _ r f h = absurd h
