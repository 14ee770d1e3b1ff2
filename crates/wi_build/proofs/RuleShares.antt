-- What holds of each share holds of what each rule of a head adds to the terms.
use Rattle.std.proofs.Common.{ℕ, zero, suc, Bool, not, List, [], ◌∷◌, length, map, slice_get, inl, inr, subst}
use Rattle.std.specs.Prelude.{if◌then◌else◌}
use Rattle.std.specs.List.{filter, flat_map, range_with_len}
use Rattle.std.specs.Option.{option_map_or}
use Rattle.wi_labels.specs.declared.label.Label.{Label}
use Rattle.wi_labels.specs.declared.ops.Op.{Op}
use Rattle.wi_net.specs.declared.parts.LinkId.{LinkId}
use Rattle.wi_net.specs.declared.parts.Member.{Member}
use Rattle.wi_net.specs.LinkSet.{has}
use Rattle.wi_net.specs.Tables.{all_members}
use Rattle.wi_net.specs.Net.{links_where}
use Rattle.wi_pds.specs.declared.rule.Word2.{Word2}
use Rattle.wi_pds.specs.declared.rule.Word2.TheVariants.{Empty, One}
use Rattle.wi_world.specs.declared.run.Step.{Step}
use Rattle.wi_world.specs.declared.run.End.{End}
use Rattle.wi_world.specs.declared.run.End.TheVariants.{Arrives, Inactive, Undefined}
use Rattle.wi_rules.specs.declared.spot.Origin.TheVariants.{SetOut}
use Rattle.wi_rules.specs.declared.spot.Spot.{Spot}
use Rattle.wi_rules.specs.declared.spot.Spot.TheVariants.{Start, Done, Build, Close, OnLink, Mid, Drop}
use Rattle.wi_rules.specs.Rules.{Encoding, SpotRule, zeros, plain, working, pushing, is_label, word_over, on_way, may_build, build_rules, set_out_rules, entry_rules, lost_by, lost_rules, end_rules, next_op_rules, on_link_rules, rules_of, IsEncoding}
use Rattle.wi_rules.proofs.Lists.{In, in_either, map_in, flat_in, if_in, option_in, one_in}
use Rattle.wi_rules.proofs.HopRun.{Hops, entry_in}
use Rattle.wi_rules.proofs.Ending.{end_in}

-- it holds of no share at all, of each first link's, of each step's and of each end's
module _ (s : Encoding) (k : IsEncoding s) (P : List ℕ → Type 0) (none : P (zeros s)) (first : (e : LinkId) → P (s.first_share e)) (step : (e : LinkId) (l : Label) (step : Step) → P (s.step_share e l step))
    (last : (e : LinkId) (l : Label) (end : End) → P (s.end_share e l end)) where
  entry_shares : (e : LinkId) (q : ℕ) (l : Label) (r : SpotRule) → In (entry_rules s e q l) r → P r.share
  entry_shares e q l r i =
      let h : Hops s k e q l r = entry_in s k e q l r i in
      subst (λ (x : SpotRule). P x.share) h.is (step e l h.step)

  end_shares : (e : LinkId) (l : Label) (r : SpotRule) → In (end_rules s e l) r → P r.share
  end_shares e l r i =
      elim (end_in s k e l r i) [
        | inl a ↦ subst (λ (x : SpotRule). P x.share) a.is (last e l Arrives)
        | inr (inl a) ↦ subst (λ (x : SpotRule). P x.share) a.is (last e l Inactive)
        | inr (inr a) ↦ subst (λ (x : SpotRule). P x.share) a.is (last e l (Undefined a.step))
      ]

  set_out_shares : (n : ℕ) (e : LinkId) (r : SpotRule) → In (set_out_rules s n e) r → P r.share
  set_out_shares n e r i =
      let to_rule : ℕ → SpotRule = λ q. record { to = OnLink e q; word = One (suc n); share = s.first_share e; origin = SetOut e } in
      let a = map_in to_rule (s.path.next 0 e.0) r i in
      subst (λ (x : SpotRule). P x.share) a.2 (first e)

  build_shares : (q g l : ℕ) (r : SpotRule) → In (build_rules s q g l) r → P r.share
  build_shares q g l r i =
      let a = if_in (may_build s.net l g) (map (λ (x : ℕ). pushing s l g x) (s.first_before q l)) r i in
      let b = map_in (λ (x : ℕ). pushing s l g x) (s.first_before q l) r a.1 in
      subst (λ (x : SpotRule). P x.share) b.2 none

  next_op_shares : (m i q n : ℕ) (member : Member) (r : SpotRule) → In (next_op_rules s m i q n member) r → P r.share
  next_op_shares m i q n member r h =
      let a = option_in (λ (op : Op). option_map_or (λ (word : Word2). working s m i (on_way member m (suc i) q) word ∷ []) (word_over s.net op n) []) (slice_get member.ops i) r h in
      let b = option_in (λ (word : Word2). working s m i (on_way member m (suc i) q) word ∷ []) (word_over s.net a.0 n) r a.2 in
      subst (λ (x : SpotRule). P x.share) (one_in (working s m i (on_way member m (suc i) q) b.0) r b.2) none

  -- of a plain rule that is there under a test
  plain_share : (b : Bool) (to : Spot) (word : Word2) (r : SpotRule) → In (if b then plain s to word ∷ [] else []) r → P r.share
  plain_share b to word r i = subst (λ (x : SpotRule). P x.share) (one_in (plain s to word) r (if_in b (plain s to word ∷ []) r i).1) none

  pub shares_hold : (p : Spot) (g : ℕ) (r : SpotRule) → In (rules_of s p g) r → P r.share
  shares_hold Start zero r i =
      let a = map_in (λ (q : ℕ). plain s (Build q) (One 0)) (filter (λ (q : ℕ). s.first.accepts q) (range_with_len 0 s.first.states)) r i in
      subst (λ (x : SpotRule). P x.share) a.2 none
  shares_hold Start (suc n) r i = absurd i
  shares_hold Done g r i = absurd i
  shares_hold (Build zero) zero r i = absurd i
  shares_hold (Build zero) (suc n) r i =
      let alive = links_where s.net (λ e. not (has s.bounds.down e)) in
      let a = flat_in (set_out_rules s n) alive r (if_in (is_label s.net n) (flat_map (set_out_rules s n) alive) r i).1 in
      set_out_shares n a.0 r a.2
  shares_hold (Build (suc q)) g r i =
      let a = flat_in (build_rules s (suc q) g) (range_with_len 0 (length s.net.classes)) r i in
      build_shares (suc q) g a.0 r a.2
  shares_hold (Close q) zero r i = plain_share (s.last.accepts q) Done Empty r i
  shares_hold (Close q) (suc n) r i =
      let a = map_in (λ (x : ℕ). plain s (Close x) Empty) (s.last.next q n) r (if_in (is_label s.net n) (map (λ (x : ℕ). plain s (Close x) Empty) (s.last.next q n)) r i).1 in
      subst (λ (x : SpotRule). P x.share) a.2 none
  shares_hold (OnLink e q) zero r i = absurd i
  shares_hold (OnLink e q) (suc n) r i =
      elim (in_either (entry_rules s e q (record { 0 = n })) (if s.path.accepts q then end_rules s e (record { 0 = n }) else []) r (if_in (is_label s.net n) (on_link_rules s e q (record { 0 = n })) r i).1) [
        | inl a ↦ entry_shares e q (record { 0 = n }) r a
        | inr a ↦ end_shares e (record { 0 = n }) r (if_in (s.path.accepts q) (end_rules s e (record { 0 = n })) r a).1
      ]
  shares_hold (Mid m zero q) g r i = absurd i
  shares_hold (Mid m (suc j) q) zero r i = absurd i
  shares_hold (Mid m (suc j) q) (suc n) r i =
      let a = option_in (next_op_rules s m (suc j) q n) (slice_get (all_members s.net.rows) m) r i in
      next_op_shares m (suc j) q n a.0 r a.2
  shares_hold (Drop m zero) g r i = absurd i
  shares_hold (Drop m (suc j)) zero r i = absurd i
  shares_hold (Drop m (suc j)) (suc n) r i =
      let there = if_in (is_label s.net n) (option_map_or (lost_rules s m (suc j) n) (slice_get (all_members s.net.rows) m) []) r i in
      let a = option_in (lost_rules s m (suc j) n) (slice_get (all_members s.net.rows) m) r there.1 in
      let b = option_in (λ (way : Spot × Word2). working s m (suc j) way.0 way.1 ∷ []) (lost_by s.net a.0.ops m (suc j) n) r a.2 in
      subst (λ (x : SpotRule). P x.share) (one_in (working s m (suc j) b.0.0 b.0.1) r b.2) none
