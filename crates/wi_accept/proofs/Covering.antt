-- Rows that are demanded are those that chains of rows make, and one is met where there is a row for it.
use Rattle.std.specs.Prelude.{◌≡◌, ℕ, true, false, ◌&&◌, ◌==◌, List, Option, Some, None, refl, map}
use Rattle.std.specs.Option.{option_map_or}
use Rattle.std.specs.Ordering.{is_lt, is_le}
use Rattle.std.specs.declared.cmp.Ordering.{Ordering}
use Rattle.std.specs.declared.cmp.Ordering.TheVariants.{Less, Equal, Greater}
use Rattle.std.proofs.Common.{sym, ap, ◌∙◌, subst, inl, inr}
use Rattle.std.proofs.lemmas.Bool.{both_ways, eqb-true, eq-eqb}
use Rattle.wi_weight.specs.Weights.{Scale, WeightLaws, IsWeight, plus, zero_weight, AtMost}
use Rattle.wi_pds.specs.declared.rule.Word2.{Word2}
use Rattle.wi_pds.specs.declared.rule.Word2.TheVariants.{Empty, One, Two}
use Rattle.wi_pds.specs.Runs.{symbols}
use Rattle.wi_pds.specs.Closed.{Summary, Listed, Chain, Within, HasRow}
use Rattle.wi_rules.proofs.Lists.{In, contains_in, in_contains, in_map, map_in, in_flat, flat_in, in_filter, filter_in}
use Rattle.wi_accept.specs.Demands.{row, rows_at, demands, is_within, row_to, is_met}
use Rattle.wi_accept.proofs.Finding.{find_none, find_some, both_equal, equal_both}

-- the rows from p with g on top are the listed ones
pub row_at : (rows : List Summary) (p g q : ℕ) (w : List ℕ) → Listed rows p g q w → In (rows_at rows p g) (row p g q w)
row_at rows p g q w h = in_filter (λ (r : Summary). r.p == p && r.g == g) rows (row p g q w) (contains_in rows (row p g q w) h) (equal_both p g)

pub at_row : (rows : List Summary) (p g : ℕ) (r : Summary) → In (rows_at rows p g) r → Listed rows p g r.q r.weight
at_row rows p g r h =
    let k = filter_in (λ (r : Summary). r.p == p && r.g == g) rows r h in
    in_contains rows (row p g r.q r.weight) (subst (In rows) (same (both_equal r.p r.g p g k.1)) k.0)
  where
    same : (r.p ≡ p) × (r.g ≡ g) → r ≡ row p g r.q r.weight
    same e = ap (λ n. row n r.g r.q r.weight) e.0 ∙ ap (λ n. row p n r.q r.weight) e.1

pub row_found : (rows : List Summary) (p g q : ℕ) (r : Summary) → row_to rows p g q ≡ Some r → Listed rows p g q r.weight
row_found rows p g q r h =
    let found = find_some (λ (r : Summary). r.q == q) (rows_at rows p g) r h in
    subst (λ n. Listed rows p g n r.weight) (eqb-true r.q q found.1) (at_row rows p g r found.0)

pub no_row_found : (rows : List Summary) (p g q : ℕ) → row_to rows p g q ≡ None → (w : List ℕ) → Listed rows p g q w → ⊥
no_row_found rows p g q h w at =
    both_ways (q == q) (find_none (λ (r : Summary). r.q == q) (rows_at rows p g) (row p g q w) h (row_at rows p g q w at)) (eq-eqb q q refl)

-- tests of weights and what they say
at_most : (o : Ordering) → is_le o ≡ true → o ≡ Greater → ⊥
at_most Less h k = cc
at_most Equal h k = cc
at_most Greater h k = cc

most : (o : Ordering) → (o ≡ Greater → ⊥) → is_le o ≡ true
most Less h = refl
most Equal h = refl
most Greater h = absurd (h refl)

less : (o : Ordering) → is_lt o ≡ true → o ≡ Less
less Less h = refl
less Equal h = cc
less Greater h = cc

module _ (m : Scale) where
  pub within_test : (bound : Option (List ℕ)) (w : List ℕ) → Within m bound w → is_within m bound w ≡ true
  within_test None w h = refl
  within_test (Some b) w h = ap is_lt h

  pub within_is : (bound : Option (List ℕ)) (w : List ℕ) → is_within m bound w ≡ true → Within m bound w
  within_is None w h = tt
  within_is (Some b) w h = less (m.order w b) h

  -- what is met has a row
  pub has_row : (rows : List Summary) (p g q : ℕ) (w : List ℕ) → is_met m rows (row p g q w) ≡ true → HasRow m rows p g q w
  has_row rows p g q w h = by_row (row_to rows p g q) refl h
    where
      by_row : (o : Option Summary) → row_to rows p g q ≡ o → option_map_or (λ (r : Summary). is_le (m.order r.weight w)) o false ≡ true → HasRow m rows p g q w
      by_row None e h = cc
      by_row (Some r) e h = (r.weight, row_found rows p g q r e, at_most (m.order r.weight w) h)

  -- where no two rows are for one summary, a row meets
  pub row_meets : (rows : List Summary) (p g q : ℕ) (w : List ℕ) → ((x y : List ℕ) → Listed rows p g q x → Listed rows p g q y → x ≡ y) → HasRow m rows p g q w → is_met m rows (row p g q w) ≡ true
  row_meets rows p g q w unique h = by_row (row_to rows p g q) refl
    where
      by_row : (o : Option Summary) → row_to rows p g q ≡ o → option_map_or (λ (r : Summary). is_le (m.order r.weight w)) o false ≡ true
      by_row None e = absurd (no_row_found rows p g q e h.0 h.1)
      by_row (Some r) e = most (m.order r.weight w) (subst (λ x. AtMost m x w) (unique h.0 r.weight h.1 (row_found rows p g q r e)) h.2)

  -- a demand is for this head, and has a row if it is within the bound
  pub record IsCovered (bound : Option (List ℕ)) (rows : List Summary) (p g : ℕ) (d : Summary) : Type 0 where
    pub from : d.p ≡ p
    pub top : d.g ≡ g
    pub has : Within m bound d.weight → HasRow m rows p g d.q d.weight

  moved : (bound : Option (List ℕ)) (rows : List Summary) (p g a q : ℕ) (v w : List ℕ) → a ≡ q → v ≡ w → (Within m bound v → HasRow m rows p g a v) → Within m bound w → HasRow m rows p g q w
  moved bound rows p g a q v w e k f h = subst (λ n. HasRow m rows p g n w) e (subst (λ x. HasRow m rows p g a x) k (f (subst (Within m bound) (sym k) h)))

module _ (m : Scale) (laws : WeightLaws m) where
  -- a part at the end of a chain weighs what is left
  last_is : (x y w : List ℕ) → IsWeight m x → zero_weight m ≡ y → plus x y ≡ w → x ≡ w
  last_is x y w h z e = sym (laws.unit_right x h) ∙ ap (plus x) z ∙ e

  -- a chain for what a rule of weight v writes has a row, where what is demanded has one
  pub chain_met : (bound : Option (List ℕ)) (rows : List Summary) (p g to q : ℕ) (v : List ℕ) (word : Word2) (w : List ℕ)
      → ((p g q : ℕ) (w : List ℕ) → Listed rows p g q w → IsWeight m w) → IsWeight m v
      → ((q : ℕ) (w : List ℕ) → In (demands rows p g v to word) (row p g q w) → Within m bound w → HasRow m rows p g q w)
      → Chain m rows to (symbols word) q w → Within m bound (plus v w) → HasRow m rows p g q (plus v w)
  chain_met bound rows p g to q v Empty w weights weight meets chain within =
      moved m bound rows p g to q v (plus v w) chain.0 (sym (laws.unit_right v weight) ∙ ap (plus v) chain.1) (meets to v (inl refl)) within
  chain_met bound rows p g to q v (One u) w weights weight meets chain within =
      let here : IsWeight m chain.1 = weights to u chain.0 chain.1 chain.3 in
      moved m bound rows p g chain.0 q (plus v chain.1) (plus v w) chain.4.0 (ap (plus v) (last_is chain.1 chain.2 w here chain.4.1 chain.5))
      (meets chain.0 (plus v chain.1)
      (in_map (λ (r : Summary). row p g r.q (plus v r.weight)) (rows_at rows to u) (row to u chain.0 chain.1) (row_at rows to u chain.0 chain.1 chain.3))) within
  chain_met bound rows p g to q v (Two u z) w weights weight meets chain within =
      let rest = chain.4 in
      let here : IsWeight m chain.1 = weights to u chain.0 chain.1 chain.3 in
      let there : IsWeight m rest.1 = weights chain.0 z rest.0 rest.1 rest.3 in
      let total : plus (plus v chain.1) rest.1 ≡ plus v w =
      laws.assoc v chain.1 rest.1 weight here there ∙ ap (λ x. plus v (plus chain.1 x)) (last_is rest.1 rest.2 chain.2 there rest.4.1 rest.5) ∙ ap (plus v) chain.5 in
      moved m bound rows p g rest.0 q (plus (plus v chain.1) rest.1) (plus v w) rest.4.0 total
      (meets rest.0 (plus (plus v chain.1) rest.1)
      (in_flat (λ (r : Summary). map (λ (s : Summary). row p g s.q (plus (plus v r.weight) s.weight)) (rows_at rows r.q z)) (rows_at rows to u) (row to u chain.0 chain.1)
      (row p g rest.0 (plus (plus v chain.1) rest.1)) (row_at rows to u chain.0 chain.1 chain.3)
      (in_map (λ (s : Summary). row p g s.q (plus (plus v chain.1) s.weight)) (rows_at rows chain.0 z) (row chain.0 z rest.0 rest.1) (row_at rows chain.0 z rest.0 rest.1 rest.3)))) within

  -- what is demanded has a row, where chains for what a rule of weight v writes have one
  pub demand_covered : (bound : Option (List ℕ)) (rows : List Summary) (p g to : ℕ) (v : List ℕ) (word : Word2)
      → ((p g q : ℕ) (w : List ℕ) → Listed rows p g q w → IsWeight m w) → IsWeight m v
      → ((q : ℕ) (w : List ℕ) → Chain m rows to (symbols word) q w → Within m bound (plus v w) → HasRow m rows p g q (plus v w))
      → (d : Summary) → In (demands rows p g v to word) d → IsCovered m bound rows p g d
  demand_covered bound rows p g to v Empty weights weight f d (inl e) = subst (IsCovered m bound rows p g) e (record {
    from = refl;
    top = refl;
    has = moved m bound rows p g to to (plus v (zero_weight m)) v refl (laws.unit_right v weight) (f to (zero_weight m) (refl, refl));
  })
  demand_covered bound rows p g to v Empty weights weight f d (inr t) = absurd t
  demand_covered bound rows p g to v (One u) weights weight f d i =
      let a = map_in (λ (r : Summary). row p g r.q (plus v r.weight)) (rows_at rows to u) d i in
      let r = a.0 in
      let at = at_row rows to u r a.1 in
      subst (IsCovered m bound rows p g) a.2 (record {
        from = refl;
        top = refl;
        has = f r.q r.weight (r.q, r.weight, zero_weight m, at, (refl, refl), laws.unit_right r.weight (weights to u r.q r.weight at));
      })
  demand_covered bound rows p g to v (Two u z) weights weight f d i =
      let a = flat_in (λ (r : Summary). map (λ (s : Summary). row p g s.q (plus (plus v r.weight) s.weight)) (rows_at rows r.q z)) (rows_at rows to u) d i in
      let r = a.0 in
      let b = map_in (λ (s : Summary). row p g s.q (plus (plus v r.weight) s.weight)) (rows_at rows r.q z) d a.2 in
      let s = b.0 in
      let at = at_row rows to u r a.1 in
      let next = at_row rows r.q z s b.1 in
      let here : IsWeight m r.weight = weights to u r.q r.weight at in
      let there : IsWeight m s.weight = weights r.q z s.q s.weight next in
      subst (IsCovered m bound rows p g) b.2 (record {
        from = refl;
        top = refl;
        has = moved m bound rows p g s.q s.q (plus v (plus r.weight s.weight)) (plus (plus v r.weight) s.weight) refl (sym (laws.assoc v r.weight s.weight weight here there))
            (f s.q (plus r.weight s.weight) (r.q, r.weight, s.weight, at, (s.q, s.weight, zero_weight m, next, (refl, refl), laws.unit_right s.weight there), refl));
      })
