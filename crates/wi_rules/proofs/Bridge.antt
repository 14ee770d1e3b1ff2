-- Runs by their rules and runs by their number of rules are the same, and weigh the same.
use Rattle.std.proofs.Common.{◌≡◌, ℕ, zero, suc, ◌+◌, not, List, [], ◌∷◌, ◌++◌, length, map, slice_get, inl, inr, refl, arith, ap, sym, ◌∙◌, subst}
use Rattle.std.specs.Prelude.{if◌then◌else◌}
use Rattle.std.specs.List.{flat_map, filter, range_with_len}
use Rattle.std.specs.Option.{option_map_or}
use Rattle.wi_labels.specs.declared.label.Label.{Label}
use Rattle.wi_labels.specs.declared.ops.Op.{Op}
use Rattle.wi_net.specs.declared.parts.LinkId.{LinkId}
use Rattle.wi_net.specs.LinkSet.{has}
use Rattle.wi_net.specs.Tables.{all_members}
use Rattle.wi_net.specs.Net.{links_where}
use Rattle.wi_weight.specs.Weights.{plus}
use Rattle.wi_weight.specs.lemmas.Sums.{length-plus}
use Rattle.wi_pds.specs.declared.rule.Word2.{Word2}
use Rattle.wi_pds.specs.declared.rule.Word2.TheVariants.{Empty, One}
use Rattle.wi_pds.specs.Runs.{symbols}
use Rattle.wi_world.specs.declared.run.End.TheVariants.{Arrives, Inactive, Undefined}
use Rattle.wi_rules.specs.declared.spot.Origin.{Origin}
use Rattle.wi_rules.specs.declared.spot.Origin.TheVariants.{SetOut}
use Rattle.wi_rules.specs.declared.spot.Spot.{Spot}
use Rattle.wi_rules.specs.declared.spot.Spot.TheVariants.{Start, Done, Build, Close, OnLink, Mid, Drop}
use Rattle.wi_rules.specs.Rules.{Encoding, SpotRule, zeros, plain, working, pushing, word_over, on_way, may_build, build_rules, set_out_rules, entry_rules, lost_by, lost_rules, end_rules, on_link_rules, is_label, next_op_rules, rules_of, IsEncoding}
use Rattle.wi_rules.specs.Goals.{Rewrites, rules_weight, main_origin, origins_of}
use Rattle.wi_rules.proofs.Lists.{In, contains_in, in_contains, in_either, map_in, flat_in, if_in, option_in, one_in, length_zeros}
use Rattle.wi_rules.proofs.Ends.{Ends}
use Rattle.wi_rules.proofs.HopRun.{Hops, entry_in}
use Rattle.wi_rules.proofs.Ending.{end_in}

plus_last : (a b : List ℕ) (x y : ℕ) → length a ≡ length b → plus (a ++ x ∷ []) (b ++ y ∷ []) ≡ plus a b ++ (x + y) ∷ []
plus_last [] [] x y h = refl
plus_last [] (n ∷ b) x y h = absurd (omega (arith, h))
plus_last (m ∷ a) [] x y h = absurd (omega (arith, h))
plus_last (m ∷ a) (n ∷ b) x y h = ap (λ (r : List ℕ). (m + n) ∷ r) (plus_last a b x y (omega (arith, h)))

module _ (s : Encoding) (k : IsEncoding s) where
  of_plain : (to : Spot) (word : Word2) (r : SpotRule) → plain s to word ≡ r → length r.share ≡ s.terms
  of_plain to word r e = subst (λ (x : SpotRule). length x.share ≡ s.terms) e (length_zeros s)

  of_end : (e : LinkId) (l : Label) (r : SpotRule) → In (end_rules s e l) r → length r.share ≡ s.terms
  of_end e l r i =
      elim (end_in s k e l r i) [
        | inl a ↦ subst (λ (x : SpotRule). length x.share ≡ s.terms) a.is (k.end_length e l Arrives)
        | inr (inl a) ↦ subst (λ (x : SpotRule). length x.share ≡ s.terms) a.is (k.end_length e l Inactive)
        | inr (inr a) ↦ subst (λ (x : SpotRule). length x.share ≡ s.terms) a.is (k.end_length e l (Undefined a.step))
      ]

  -- each rule adds to so many terms
  rule_length : (p : Spot) (g : ℕ) (r : SpotRule) → In (rules_of s p g) r → length r.share ≡ s.terms
  rule_length Start zero r i = let a = map_in (λ (q : ℕ). plain s (Build q) (One 0)) (filter (λ (q : ℕ). s.first.accepts q) (range_with_len 0 s.first.states)) r i in of_plain (Build a.0) (One 0) r a.2
  rule_length Start (suc n) r i = absurd i
  rule_length Done g r i = absurd i
  rule_length (Build zero) zero r i = absurd i
  rule_length (Build zero) (suc n) r i =
      let a = flat_in (set_out_rules s n) (links_where s.net (λ e. not (has s.bounds.down e))) r (if_in (is_label s.net n) (flat_map (set_out_rules s n) (links_where s.net (λ e. not (has s.bounds.down e)))) r i).1 in
      let to_rule : ℕ → SpotRule = λ q. record { to = OnLink a.0 q; word = One (suc n); share = s.first_share a.0; origin = SetOut a.0 } in
      let b = map_in to_rule (s.path.next 0 a.0.0) r a.2 in
      subst (λ (x : SpotRule). length x.share ≡ s.terms) b.2 (k.first_length a.0)
  rule_length (Build (suc q)) g r i =
      let a = flat_in (build_rules s (suc q) g) (range_with_len 0 (length s.net.classes)) r i in
      let b = if_in (may_build s.net a.0 g) (map (λ (x : ℕ). pushing s a.0 g x) (s.first_before (suc q) a.0)) r a.2 in
      let c = map_in (λ (x : ℕ). pushing s a.0 g x) (s.first_before (suc q) a.0) r b.1 in
      subst (λ (x : SpotRule). length x.share ≡ s.terms) c.2 (length_zeros s)
  rule_length (Close q) zero r i =
      let a = if_in (s.last.accepts q) (plain s Done Empty ∷ []) r i in
      of_plain Done Empty r (one_in (plain s Done Empty) r a.1)
  rule_length (Close q) (suc n) r i =
      let a = map_in (λ (x : ℕ). plain s (Close x) Empty) (s.last.next q n) r (if_in (is_label s.net n) (map (λ (x : ℕ). plain s (Close x) Empty) (s.last.next q n)) r i).1 in
      of_plain (Close a.0) Empty r a.2
  rule_length (OnLink e q) zero r i = absurd i
  rule_length (OnLink e q) (suc n) r i =
      elim (in_either (entry_rules s e q (record { 0 = n })) (if s.path.accepts q then end_rules s e (record { 0 = n }) else []) r (if_in (is_label s.net n) (on_link_rules s e q (record { 0 = n })) r i).1) [
        | inl a ↦ (let h : Hops s k e q (record { 0 = n }) r = entry_in s k e q (record { 0 = n }) r a in subst (λ (x : SpotRule). length x.share ≡ s.terms) h.is (k.step_length e (record { 0 = n }) h.step))
        | inr a ↦ of_end e (record { 0 = n }) r (if_in (s.path.accepts q) (end_rules s e (record { 0 = n })) r a).1
      ]
  rule_length (Mid m zero q) g r i = absurd i
  rule_length (Mid m (suc j) q) zero r i = absurd i
  rule_length (Mid m (suc j) q) (suc n) r i =
      let a = option_in (next_op_rules s m (suc j) q n) (slice_get (all_members s.net.rows) m) r i in
      let b = option_in (λ (op : Op). option_map_or (λ (word : Word2). working s m (suc j) (on_way a.0 m (suc (suc j)) q) word ∷ []) (word_over s.net op n) []) (slice_get a.0.ops (suc j)) r a.2 in
      let c = option_in (λ (word : Word2). working s m (suc j) (on_way a.0 m (suc (suc j)) q) word ∷ []) (word_over s.net b.0 n) r b.2 in
      subst (λ (x : SpotRule). length x.share ≡ s.terms) (one_in (working s m (suc j) (on_way a.0 m (suc (suc j)) q) c.0) r c.2) (length_zeros s)
  rule_length (Drop m zero) g r i = absurd i
  rule_length (Drop m (suc j)) zero r i = absurd i
  rule_length (Drop m (suc j)) (suc n) r i =
      let a = option_in (lost_rules s m (suc j) n) (slice_get (all_members s.net.rows) m) r (if_in (is_label s.net n) (option_map_or (lost_rules s m (suc j) n) (slice_get (all_members s.net.rows) m) []) r i).1 in
      let b = option_in (λ (way : Spot × Word2). working s m (suc j) way.0 way.1 ∷ []) (lost_by s.net a.0.ops m (suc j) n) r a.2 in
      subst (λ (x : SpotRule). length x.share ≡ s.terms) (one_in (working s m (suc j) b.0.0 b.0.1) r b.2) (length_zeros s)

  pub record Spelled (p : Spot) (stack t : List ℕ) (os : List Origin) (n : ℕ) : Type 0 where
    pub rules : List SpotRule
    pub run : Rewrites s p stack rules Done []
    pub weight : rules_weight s rules ≡ t ++ n ∷ []
    pub tells : origins_of rules ≡ os

  pub ends_rewrites : (n : ℕ) (p : Spot) (stack t : List ℕ) (os : List Origin) → Ends s p stack t os n → Spelled p stack t os n
  ends_rewrites zero p stack t os h = record { rules = []; run = (h.0, h.1); weight = ap (λ (x : List ℕ). x ++ 0 ∷ []) (sym h.2); tells = sym h.3 }
  ends_rewrites (suc n) p [] t os h = absurd h
  ends_rewrites (suc n) p (g ∷ stack) t os h =
      let rest : Spelled h.0.to (symbols h.0.word ++ stack) h.1 h.2 n = ends_rewrites n h.0.to (symbols h.0.word ++ stack) h.1 h.2 h.4 in
      let long : length h.0.share ≡ length h.1 = rule_length p g h.0 h.3 ∙ sym h.5 in
      let one : 1 + n ≡ suc n = omega arith in
      record {
        rules = h.0 ∷ rest.rules;
        run = (in_contains (rules_of s p g) h.0 h.3, rest.run);
        weight = ap (λ (x : List ℕ). plus (h.0.share ++ 1 ∷ []) x) rest.weight ∙ plus_last h.0.share h.1 1 n long ∙ rw one (ap (λ (x : List ℕ). x ++ suc n ∷ []) (sym h.6));
        tells = ap (λ (x : List Origin). main_origin h.0.origin ++ x) rest.tells ∙ sym h.7;
      }

  pub record Counted (p : Spot) (stack : List ℕ) (os : List Origin) (w : List ℕ) : Type 0 where
    pub share : List ℕ
    pub count : ℕ
    pub ends : Ends s p stack share os count
    pub long : length share ≡ s.terms
    pub weight : w ≡ share ++ count ∷ []

  pub rewrites_ends : (rs : List SpotRule) (p : Spot) (stack : List ℕ) → Rewrites s p stack rs Done [] → Counted p stack (origins_of rs) (rules_weight s rs)
  rewrites_ends [] p stack h = record { share = zeros s; count = 0; ends = (h.0, h.1, refl, refl); long = length_zeros s; weight = refl }
  rewrites_ends (r ∷ rs) p [] h = absurd h
  rewrites_ends (r ∷ rs) p (g ∷ stack) h =
      let rest : Counted r.to (symbols r.word ++ stack) (origins_of rs) (rules_weight s rs) = rewrites_ends rs r.to (symbols r.word ++ stack) h.1 in
      let i : In (rules_of s p g) r = contains_in (rules_of s p g) r h.0 in
      let long : length r.share ≡ s.terms = rule_length p g r i in
      let one : 1 + rest.count ≡ suc rest.count = omega arith in
      record {
        share = plus r.share rest.share;
        count = suc rest.count;
        ends = (r, rest.share, origins_of rs, i, rest.ends, rest.long, refl, refl);
        long = length-plus s.terms r.share rest.share long rest.long;
        weight = ap (λ (x : List ℕ). plus (r.share ++ 1 ∷ []) x) rest.weight ∙ plus_last r.share rest.share 1 rest.count (long ∙ sym rest.long) ∙ rw one refl;
      }
