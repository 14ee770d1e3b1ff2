-- A spot is told by its number, and the rules lead only to spots that have one.
use Rattle.std.proofs.Common.{◌≡◌, ℕ, zero, suc, ◌+◌, ◌-◌, ◌*◌, ◌/◌, ◌%◌, ◌<◌, ◌≤◌, Bool, true, false, not, nat_lt, [], ◌∷◌, length, map, slice_get, Some, inl, inr, refl, arith, ap, ◌∙◌, subst}
use Rattle.std.specs.Prelude.{if◌then◌else◌}
use Rattle.std.specs.List.{flat_map, filter, range_with_len}
use Rattle.std.specs.Option.{option_map_or}
use Rattle.std.proofs.lemmas.Nat.{div-mul-add, mod-mul-add}
use Rattle.std.proofs.Math.Nat.{mul-le-mul_right}
use Rattle.std.proofs.lemmas.Bool.{ltb-true, lt-ltb, le-ltb}
use Rattle.wi_labels.specs.declared.label.Label.{Label}
use Rattle.wi_labels.specs.declared.ops.Op.{Op}
use Rattle.wi_net.specs.declared.parts.LinkId.{LinkId}
use Rattle.wi_net.specs.declared.parts.Member.{Member}
use Rattle.wi_net.specs.LinkSet.{has}
use Rattle.wi_net.specs.Tables.{all_members, row_members}
use Rattle.wi_net.specs.Net.{links_where}
use Rattle.wi_net.proofs.SetLemmas.{where_has}
use Rattle.wi_pds.specs.declared.rule.Word2.{Word2}
use Rattle.wi_pds.specs.declared.rule.Word2.TheVariants.{Empty, One}
use Rattle.wi_rules.specs.declared.spot.Origin.TheVariants.{SetOut}
use Rattle.wi_rules.specs.declared.spot.Spot.{Spot}
use Rattle.wi_rules.specs.declared.spot.Spot.TheVariants.{Start, Done, Build, Close, OnLink, Mid, Drop}
use Rattle.wi_rules.specs.Rules.{Encoding, SpotRule, plain, working, pushing, word_over, member_number, on_way, may_build, build_rules, set_out_rules, entry_rules, lost_by, lost_rules, end_rules, on_link_rules, is_label, next_op_rules, rules_of, IsEncoding}
use Rattle.wi_rules.specs.Numbers.{Layout, layout_of, number, dropping, amid, on_links, closing, building, spot_of, Fits}
use Rattle.wi_rules.proofs.Lists.{In, in_contains, in_either, map_in, flat_in, filter_in, range_in, if_in, option_in, one_in, get_below, in_has}
use Rattle.wi_rules.proofs.Members.{Kept, kept, all_count}
use Rattle.wi_rules.proofs.HopRun.{Hops, entry_in, numbered}
use Rattle.wi_rules.proofs.Lost.{lost_either}
use Rattle.wi_rules.proofs.Ending.{end_in}

-- a row and a column are a number below the product
below_product : (a n b q : ℕ) → a < n → q < b → a * b + q < n * b
below_product a n b q h k =
    let more : (a + 1) * b ≤ n * b = mul-le-mul_right b (omega (arith, h)) in
    let split : (a + 1) * b ≡ a * b + b = omega arith in
    omega (arith, more, split, k)

take_off : (a b : ℕ) → (a + b) - a ≡ b
take_off a b = omega arith

past : (a b : ℕ) → nat_lt (a + b) a ≡ false
past a b = le-ltb (a + b) a (omega arith)

at_amid : (y : Layout) (m i q : ℕ) → m < y.members → 0 < i → i < 8 → q < y.path → amid y ((m * 7 + (i - 1)) * y.path + q) ≡ Some (Mid m i q)
at_amid y m i q hm hi h8 hq =
    let line : m * 7 + (i - 1) < y.members * 7 = below_product m y.members 7 (i - 1) hm (omega (arith, hi, h8)) in
    let lt : (m * 7 + (i - 1)) * y.path + q < y.members * 7 * y.path = below_product (m * 7 + (i - 1)) (y.members * 7) y.path q line hq in
    let d : ((m * 7 + (i - 1)) * y.path + q) / y.path ≡ m * 7 + (i - 1) = div-mul-add (m * 7 + (i - 1)) y.path q hq in
    let r : ((m * 7 + (i - 1)) * y.path + q) % y.path ≡ q = mod-mul-add (m * 7 + (i - 1)) y.path q hq in
    let d7 : (m * 7 + (i - 1)) / 7 ≡ m = div-mul-add m 7 (i - 1) (omega (arith, hi, h8)) in
    let r7 : (m * 7 + (i - 1)) % 7 ≡ i - 1 = mod-mul-add m 7 (i - 1) (omega (arith, hi, h8)) in
    let one : (i - 1) + 1 ≡ i = omega (arith, hi) in
    let mid : (m i q m2 i2 q2 : ℕ) → m ≡ m2 → i ≡ i2 → q ≡ q2 → Some (Mid m i q) ≡ Some (Mid m2 i2 q2) = λ m i q m2 i2 q2 a b c. cc in
    rw (lt-ltb ((m * 7 + (i - 1)) * y.path + q) (y.members * 7 * y.path) lt)
    (mid (((m * 7 + (i - 1)) * y.path + q) / y.path / 7) (((m * 7 + (i - 1)) * y.path + q) / y.path % 7 + 1) (((m * 7 + (i - 1)) * y.path + q) % y.path) m i q (ap (λ (x : ℕ). x / 7) d ∙ d7) (ap (λ (x : ℕ). x % 7 + 1) d ∙ ap (λ (x : ℕ). x + 1) r7 ∙ one) r)

at_dropping : (y : Layout) (m i : ℕ) → y.drops ≡ true → m < y.members → 0 < i → i < 8 → dropping y (m * 7 + (i - 1)) ≡ Some (Drop m i)
at_dropping y m i d hm hi h8 =
    let line : m * 7 + (i - 1) < y.members * 7 = below_product m y.members 7 (i - 1) hm (omega (arith, hi, h8)) in
    let d7 : (m * 7 + (i - 1)) / 7 ≡ m = div-mul-add m 7 (i - 1) (omega (arith, hi, h8)) in
    let r7 : (m * 7 + (i - 1)) % 7 ≡ i - 1 = mod-mul-add m 7 (i - 1) (omega (arith, hi, h8)) in
    let one : (i - 1) + 1 ≡ i = omega (arith, hi) in
    let lost : (m i m2 i2 : ℕ) → m ≡ m2 → i ≡ i2 → Some (Drop m i) ≡ Some (Drop m2 i2) = λ m i m2 i2 a b. cc in
    rw (d, lt-ltb (m * 7 + (i - 1)) (y.members * 7) line) (lost ((m * 7 + (i - 1)) / 7) ((m * 7 + (i - 1)) % 7 + 1) m i d7 (ap (λ (x : ℕ). x + 1) r7 ∙ one))

at_links : (y : Layout) (e q : ℕ) → e < y.links → q < y.path → on_links y (e * y.path + q) ≡ Some (OnLink (record { 0 = e }) q)
at_links y e q he hq =
    let lt : e * y.path + q < y.links * y.path = below_product e y.links y.path q he hq in
    let at : (e q e2 q2 : ℕ) → e ≡ e2 → q ≡ q2 → Some (OnLink (record { 0 = e }) q) ≡ Some (OnLink (record { 0 = e2 }) q2) = λ e q e2 q2 a b. ap (λ (x : ℕ). Some (OnLink (record { 0 = x }) q)) a ∙ ap (λ (x : ℕ). Some (OnLink (record { 0 = e2 }) x)) b in
    rw (lt-ltb (e * y.path + q) (y.links * y.path) lt) (at ((e * y.path + q) / y.path) ((e * y.path + q) % y.path) e q (div-mul-add e y.path q hq) (mod-mul-add e y.path q hq))

past_amid : (y : Layout) (n : ℕ) → amid y (y.members * 7 * y.path + n) ≡ dropping y n
past_amid y n = rw (past (y.members * 7 * y.path) n, take_off (y.members * 7 * y.path) n) refl

past_links : (y : Layout) (n : ℕ) → on_links y (y.links * y.path + n) ≡ amid y n
past_links y n = rw (past (y.links * y.path) n, take_off (y.links * y.path) n) refl

past_closing : (y : Layout) (n : ℕ) → closing y (y.last + n) ≡ on_links y n
past_closing y n = rw (past y.last n, take_off y.last n) refl

past_building : (y : Layout) (n : ℕ) → building y (y.first + n) ≡ closing y n
past_building y n = rw (past y.first n, take_off y.first n) refl

-- A spot whose parts are there is the spot of its number.
pub spot_of_number : (y : Layout) (p : Spot) → Fits y p → spot_of y (number y p) ≡ Some p
spot_of_number y Start f = refl
spot_of_number y Done f = refl
spot_of_number y (Build q) f = rw (lt-ltb q y.first f) refl
spot_of_number y (Close q) f = past_building y q ∙ rw (lt-ltb q y.last f) refl
spot_of_number y (OnLink e q) f = past_building y (y.last + (e.0 * y.path + q)) ∙ past_closing y (e.0 * y.path + q) ∙ at_links y e.0 q f.0 f.1
spot_of_number y (Mid m i q) f =
    past_building y (y.last + (y.links * y.path + ((m * 7 + (i - 1)) * y.path + q)))
    ∙ past_closing y (y.links * y.path + ((m * 7 + (i - 1)) * y.path + q))
    ∙ past_links y ((m * 7 + (i - 1)) * y.path + q)
    ∙ at_amid y m i q f.0 f.1 f.2 f.3
spot_of_number y (Drop m i) f =
    past_building y (y.last + (y.links * y.path + (y.members * 7 * y.path + (m * 7 + (i - 1)))))
    ∙ past_closing y (y.links * y.path + (y.members * 7 * y.path + (m * 7 + (i - 1))))
    ∙ past_links y (y.members * 7 * y.path + (m * 7 + (i - 1)))
    ∙ past_amid y (m * 7 + (i - 1))
    ∙ at_dropping y m i f.0 f.1 f.2 f.3

module _ (s : Encoding) (k : IsEncoding s) where
  on_way_fits : (member : Member) (m i q : ℕ) → slice_get (all_members s.net.rows) m ≡ Some member → 0 < i → q < s.path.states → Fits (layout_of s) (on_way member m i q)
  on_way_fits member m i q e hi hq = go (nat_lt i (length member.ops)) refl
    where
      keeps : Kept s.net member
      keeps = kept s.net k.net m member e

      place : m < row_members s.net.rows
      place = subst (λ (x : ℕ). m < x) (all_count s.net.rows) (get_below (all_members s.net.rows) m member e)

      go : (b : Bool) → nat_lt i (length member.ops) ≡ b → Fits (layout_of s) (on_way member m i q)
      go true b =
          let lt : i < length member.ops = ltb-true i (length member.ops) b in
          let le : length member.ops ≤ 8 = keeps.few in
          let eight : i < 8 = omega (arith, lt, le) in
          rw b (place, hi, eight, hq)
      go false b = rw b (ltb-true member.link.0 (length s.net.links) keeps.link, hq)

  lost_fits : (member : Member) (m i n : ℕ) (way : Spot × Word2) → s.drops ≡ true → slice_get (all_members s.net.rows) m ≡ Some member → lost_by s.net member.ops m i n ≡ Some way → Fits (layout_of s) way.0
  lost_fits member m i n way d e l =
      elim (lost_either s.net member.ops m i n way l) [
        | inl u ↦ subst (λ (x : Spot × Word2). Fits (layout_of s) x.0) u.way_is k.last.some
        | inr p ↦
            (let keeps : Kept s.net member = kept s.net k.net m member e in
            let le : length member.ops ≤ 8 = keeps.few in
            let lt : suc i < length member.ops = p.more in
            let some : 0 < suc i = omega arith in
            let eight : suc i < 8 = omega (arith, lt, le) in
            let place : m < row_members s.net.rows = subst (λ (x : ℕ). m < x) (all_count s.net.rows) (get_below (all_members s.net.rows) m member e) in
            subst (λ (x : Spot × Word2). Fits (layout_of s) x.0) p.way_is (d, place, some, eight))
      ]

  end_fits : (e : LinkId) (l : Label) (r : SpotRule) → In (end_rules s e l) r → Fits (layout_of s) r.to
  end_fits e l r i =
      elim (end_in s k e l r i) [
        | inl a ↦ subst (λ (x : SpotRule). Fits (layout_of s) x.to) a.is k.last.some
        | inr (inl a) ↦ subst (λ (x : SpotRule). Fits (layout_of s) x.to) a.is k.last.some
        | inr (inr a) ↦ subst (λ (x : SpotRule). Fits (layout_of s) x.to) a.is (lost_fits a.names.member (member_number s.net e l a.step) 0 l.0 a.way a.drops (numbered s k e l a.step a.names) a.way_is)
      ]

  -- a rule of a spot whose parts are there leads to one
  pub rule_fits : (p : Spot) (g : ℕ) (r : SpotRule) → Fits (layout_of s) p → In (rules_of s p g) r → Fits (layout_of s) r.to
  rule_fits Start zero r f i =
      let a = map_in (λ (q : ℕ). plain s (Build q) (One 0)) (filter (λ (q : ℕ). s.first.accepts q) (range_with_len 0 s.first.states)) r i in
      let b = filter_in (λ (q : ℕ). s.first.accepts q) (range_with_len 0 s.first.states) a.0 a.1 in
      let lt : a.0 < 0 + s.first.states = range_in 0 s.first.states a.0 b.0 in
      let lt2 : a.0 < s.first.states = omega (arith, lt) in
      subst (λ (x : SpotRule). Fits (layout_of s) x.to) a.2 lt2
  rule_fits Start (suc n) r f i = absurd i
  rule_fits Done g r f i = absurd i
  rule_fits (Build zero) zero r f i = absurd i
  rule_fits (Build zero) (suc n) r f i =
      let a = flat_in (set_out_rules s n) (links_where s.net (λ e. not (has s.bounds.down e))) r (if_in (is_label s.net n) (flat_map (set_out_rules s n) (links_where s.net (λ e. not (has s.bounds.down e)))) r i).1 in
      let to_rule : ℕ → SpotRule = λ q. record { to = OnLink a.0 q; word = One (suc n); share = s.first_share a.0; origin = SetOut a.0 } in
      let b = map_in to_rule (s.path.next 0 a.0.0) r a.2 in
      let there = where_has s.net (λ e. not (has s.bounds.down e)) a.0 (in_has (links_where s.net (λ e. not (has s.bounds.down e))) a.0 a.1) in
      subst (λ (x : SpotRule). Fits (layout_of s) x.to) b.2 (ltb-true a.0.0 (length s.net.links) there.0, k.path.below 0 b.0 a.0.0 (in_contains (s.path.next 0 a.0.0) b.0 b.1))
  rule_fits (Build (suc q)) g r f i =
      let a = flat_in (build_rules s (suc q) g) (range_with_len 0 (length s.net.classes)) r i in
      let b = if_in (may_build s.net a.0 g) (map (λ (x : ℕ). pushing s a.0 g x) (s.first_before (suc q) a.0)) r a.2 in
      let c = map_in (λ (x : ℕ). pushing s a.0 g x) (s.first_before (suc q) a.0) r b.1 in
      subst (λ (x : SpotRule). Fits (layout_of s) x.to) c.2 (k.first.from_below c.0 (suc q) a.0 (k.first_turned.returned c.0 (suc q) a.0 (in_contains (s.first_before (suc q) a.0) c.0 c.1)))
  rule_fits (Close q) zero r f i =
      let a = if_in (s.last.accepts q) (plain s Done Empty ∷ []) r i in
      subst (λ (x : SpotRule). Fits (layout_of s) x.to) (one_in (plain s Done Empty) r a.1) tt
  rule_fits (Close q) (suc n) r f i =
      let a = map_in (λ (x : ℕ). plain s (Close x) Empty) (s.last.next q n) r (if_in (is_label s.net n) (map (λ (x : ℕ). plain s (Close x) Empty) (s.last.next q n)) r i).1 in
      subst (λ (x : SpotRule). Fits (layout_of s) x.to) a.2 (k.last.below q a.0 n (in_contains (s.last.next q n) a.0 a.1))
  rule_fits (OnLink e q) zero r f i = absurd i
  rule_fits (OnLink e q) (suc n) r f i =
      elim (in_either (entry_rules s e q (record { 0 = n })) (if s.path.accepts q then end_rules s e (record { 0 = n }) else []) r (if_in (is_label s.net n) (on_link_rules s e q (record { 0 = n })) r i).1) [
        | inl a ↦
            (let h : Hops s k e q (record { 0 = n }) r = entry_in s k e q (record { 0 = n }) r a in
            let one : 0 < 1 = omega arith in
            let to : Fits (layout_of s) (on_way h.names.member (member_number s.net e (record { 0 = n }) h.step) 1 h.to) =
            on_way_fits h.names.member (member_number s.net e (record { 0 = n }) h.step) 1 h.to (numbered s k e (record { 0 = n }) h.step h.names) one (k.path.below q h.to h.names.member.link.0 (in_contains (s.path.next q h.names.member.link.0) h.to h.next)) in
            subst (λ (x : SpotRule). Fits (layout_of s) x.to) h.is to)
        | inr a ↦ end_fits e (record { 0 = n }) r (if_in (s.path.accepts q) (end_rules s e (record { 0 = n })) r a).1
      ]
  rule_fits (Mid m zero q) g r f i = absurd i
  rule_fits (Mid m (suc j) q) zero r f i = absurd i
  rule_fits (Mid m (suc j) q) (suc n) r f i =
      let a = option_in (next_op_rules s m (suc j) q n) (slice_get (all_members s.net.rows) m) r i in
      let b = option_in (λ (op : Op). option_map_or (λ (word : Word2). working s m (suc j) (on_way a.0 m (suc (suc j)) q) word ∷ []) (word_over s.net op n) []) (slice_get a.0.ops (suc j)) r a.2 in
      let c = option_in (λ (word : Word2). working s m (suc j) (on_way a.0 m (suc (suc j)) q) word ∷ []) (word_over s.net b.0 n) r b.2 in
      let some : 0 < suc (suc j) = omega arith in
      subst (λ (x : SpotRule). Fits (layout_of s) x.to) (one_in (working s m (suc j) (on_way a.0 m (suc (suc j)) q) c.0) r c.2) (on_way_fits a.0 m (suc (suc j)) q a.1 some f.3)
  rule_fits (Drop m zero) g r f i = absurd i
  rule_fits (Drop m (suc j)) zero r f i = absurd i
  rule_fits (Drop m (suc j)) (suc n) r f i =
      let a = option_in (lost_rules s m (suc j) n) (slice_get (all_members s.net.rows) m) r (if_in (is_label s.net n) (option_map_or (lost_rules s m (suc j) n) (slice_get (all_members s.net.rows) m) []) r i).1 in
      let b = option_in (λ (way : Spot × Word2). working s m (suc j) way.0 way.1 ∷ []) (lost_by s.net a.0.ops m (suc j) n) r a.2 in
      subst (λ (x : SpotRule). Fits (layout_of s) x.to) (one_in (working s m (suc j) b.0.0 b.0.1) r b.2) (lost_fits a.0 m (suc j) n b.0 f.0 a.1 b.1)
