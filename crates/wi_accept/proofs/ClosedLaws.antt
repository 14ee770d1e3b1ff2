-- What lacks nothing is closed, and what is closed lacks nothing.
use Rattle.std.specs.Prelude.{◌≡◌, ℕ, true, false, List, ◌∷◌, Option, Some, None, IfSome, refl, option_map}
use Rattle.std.proofs.Common.{sym, ap, ◌∙◌, inl, inr}
use Rattle.std.proofs.lemmas.Bool.{not-false}
use Rattle.wi_weight.specs.Weights.{Scale, WeightLaws, IsWeight}
use Rattle.wi_pds.specs.declared.rule.Rule.{Rule}
use Rattle.wi_pds.specs.Closed.{AreClosed, Summary, Listed, Within, HasRow, AreClosedRows}
use Rattle.wi_cert.proofs.Cases.{by_test}
use Rattle.wi_rules.proofs.Lists.{In, contains_in, in_contains, in_flat, flat_in}
use Rattle.wi_accept.specs.declared.follower.Follower.{Follower}
use Rattle.wi_accept.specs.declared.follower.Follower.TheVariants.{Head}
use Rattle.wi_accept.specs.Followers.{followers, is_missing, followers_at, followers_of, first_missing}
use Rattle.wi_accept.specs.Demands.{row, demands, demands_at, demands_of, is_within, row_to, is_met, is_open, first_open, weight_to}
use Rattle.wi_accept.proofs.Finding.{find_none, none_found}
use Rattle.wi_accept.proofs.FollowerLemmas.{listed, not_lacking, leads, given}
use Rattle.wi_accept.proofs.Covering.{row_found, no_row_found, within_test, within_is, has_row, row_meets, chain_met, IsCovered, demand_covered}

pub closed_heads : {W : Type 0} (rules : ℕ → ℕ → List (Rule W)) (start : ℕ × ℕ) (heads pairs : List (ℕ × ℕ)) → first_missing rules start heads pairs ≡ None → AreClosed rules start heads pairs
closed_heads {W} rules start heads pairs h = record {
  begins = listed heads start.0 start.1 (none (Head start.0 start.1) (inl refl));
  each = λ p g r at rule. leads heads pairs g r.to r.word (λ n i. none n (inr (
      in_flat (λ (k : ℕ × ℕ). followers_at pairs k.1 (rules k.0 k.1)) heads (p, g) n (contains_in heads (p, g) at)
      (in_flat (λ (x : Rule W). followers pairs g x.to x.word) (rules p g) r n (contains_in (rules p g) r rule) i))));
}
  where
    none : (n : Follower) → In (Head start.0 start.1 ∷ followers_of rules pairs heads) n → is_missing heads pairs n ≡ false
    none n i = find_none (λ n. is_missing heads pairs n) (Head start.0 start.1 ∷ followers_of rules pairs heads) n h i

pub nothing_missing : {W : Type 0} (rules : ℕ → ℕ → List (Rule W)) (start : ℕ × ℕ) (heads pairs : List (ℕ × ℕ)) → AreClosed rules start heads pairs → first_missing rules start heads pairs ≡ None
nothing_missing {W} rules start heads pairs h = none_found (λ n. is_missing heads pairs n) (Head start.0 start.1 ∷ followers_of rules pairs heads) each
  where
    each : (n : Follower) → In (Head start.0 start.1 ∷ followers_of rules pairs heads) n → is_missing heads pairs n ≡ false
    each n (inl e) = rw (sym e) (not_lacking heads start.0 start.1 h.begins)
    each n (inr i) =
        let k = flat_in (λ (k : ℕ × ℕ). followers_at pairs k.1 (rules k.0 k.1)) heads n i in
        let r = flat_in (λ (r : Rule W). followers pairs k.0.1 r.to r.word) (rules k.0.0 k.0.1) n k.2 in
        given heads pairs k.0.1 r.0.to r.0.word (h.each k.0.0 k.0.1 r.0 (in_contains heads k.0 k.1) (in_contains (rules k.0.0 k.0.1) r.0 r.1)) n r.2

-- no two rows are for one summary
abbrev pub AreUnique : List Summary → Type 0
AreUnique rows = (p g q : ℕ) (w x : List ℕ) → Listed rows p g q w → Listed rows p g q x → w ≡ x

-- the rows' weights are weights
abbrev pub AreWeights : Scale → List Summary → Type 0
AreWeights m rows = (p g q : ℕ) (w : List ℕ) → Listed rows p g q w → IsWeight m w

pub no_row_to : (rows : List Summary) (p g q : ℕ) → weight_to rows p g q ≡ None → (w : List ℕ) → Listed rows p g q w → ⊥
no_row_to rows p g q h w at = no_row_found rows p g q (unmapped (row_to rows p g q) h) w at
  where
    unmapped : (o : Option Summary) → option_map (λ (r : Summary). r.weight) o ≡ None → o ≡ None
    unmapped None e = refl
    unmapped (Some r) e = cc

pub no_weight_to : (rows : List Summary) (p g q : ℕ) → ((w : List ℕ) → Listed rows p g q w → ⊥) → weight_to rows p g q ≡ None
no_weight_to rows p g q h = by_row (row_to rows p g q) refl
  where
    by_row : (o : Option Summary) → row_to rows p g q ≡ o → option_map (λ (r : Summary). r.weight) o ≡ None
    by_row None e = refl
    by_row (Some r) e = absurd (h r.weight (row_found rows p g q r e))

module _ {W : Type 0} (m : Scale) (c : W → List ℕ) (laws : WeightLaws m) (admitted : (w : W) → IsWeight m (c w)) where
  -- a row that is demanded and not open is met
  met : (bound : Option (List ℕ)) (rows : List Summary) (p g q : ℕ) (w : List ℕ) → is_open m bound rows (row p g q w) ≡ false → Within m bound w → HasRow m rows p g q w
  met bound rows p g q w h k =
      let inside : is_within m bound w ≡ true = within_test m bound w k in
      has_row m rows p g q w (not-false (is_met m rows (row p g q w)) (rw inside at h))

  pub closed_rows : (rules : ℕ → ℕ → List (Rule W)) (heads : List (ℕ × ℕ)) (rows : List Summary) (bound : Option (List ℕ)) → AreWeights m rows → IfSome bound (IsWeight m)
      → first_open m c rules heads rows bound ≡ None → AreClosedRows m c rules heads rows bound
  closed_rows rules heads rows bound weights bounded h = record {
    weights = weights;
    bound_weight = bounded;
    each = λ p g r q w at rule chain within.
        chain_met m laws bound rows p g r.to q (c r.weight) r.word w weights (admitted r.weight) (λ a x i. met bound rows p g a x (none (row p g a x)
        (in_flat (λ (k : ℕ × ℕ). demands_at c rows k.0 k.1 (rules k.0 k.1)) heads (p, g) (row p g a x) (contains_in heads (p, g) at)
        (in_flat (λ (y : Rule W). demands rows p g (c y.weight) y.to y.word) (rules p g) r (row p g a x) (contains_in (rules p g) r rule) i)))) chain within;
  }
    where
      none : (d : Summary) → In (demands_of c rules rows heads) d → is_open m bound rows d ≡ false
      none d i = find_none (λ d. is_open m bound rows d) (demands_of c rules rows heads) d h i

  pub nothing_open : (rules : ℕ → ℕ → List (Rule W)) (heads : List (ℕ × ℕ)) (rows : List Summary) (bound : Option (List ℕ)) → AreUnique rows
      → AreClosedRows m c rules heads rows bound → first_open m c rules heads rows bound ≡ None
  nothing_open rules heads rows bound unique h = none_found (λ d. is_open m bound rows d) (demands_of c rules rows heads) (λ d i.
      let k = flat_in (λ (k : ℕ × ℕ). demands_at c rows k.0 k.1 (rules k.0 k.1)) heads d i in
      let r = flat_in (λ (r : Rule W). demands rows k.0.0 k.0.1 (c r.weight) r.to r.word) (rules k.0.0 k.0.1) d k.2 in
      shut d k.0.0 k.0.1 (demand_covered m laws bound rows k.0.0 k.0.1 r.0.to (c r.0.weight) r.0.word h.weights (admitted r.0.weight)
      (λ q w. h.each k.0.0 k.0.1 r.0 q w (in_contains heads k.0 k.1) (in_contains (rules k.0.0 k.0.1) r.0 r.1)) d r.2))
    where
      shut : (d : Summary) (p g : ℕ) → IsCovered m bound rows p g d → is_open m bound rows d ≡ false
      shut d p g k = by_test (is_within m bound d.weight)
          (λ (e : is_within m bound d.weight ≡ true).
          let one : is_met m rows (row p g d.q d.weight) ≡ true = row_meets m rows p g d.q d.weight (unique p g d.q) (k.has (within_is m bound d.weight e)) in
          let here : is_met m rows d ≡ true = ap (λ n. is_met m rows (row n d.g d.q d.weight)) k.from ∙ ap (λ n. is_met m rows (row p n d.q d.weight)) k.top ∙ one in
          rw (e, here) refl)
          (λ (e : is_within m bound d.weight ≡ false). rw e refl)
