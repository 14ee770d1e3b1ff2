-- Nothing speaks against the least heads, pairs and rows, where no goal run is within their bound.
use Rattle.std.proofs.Common.{◌≡◌, ℕ, List, Option, Some, None, ◌⊎◌, inl, inr, refl, ap, ◌∙◌, subst}
use Rattle.std.specs.Prelude.{IfSome}
use Rattle.std.specs.declared.cmp.Ordering.{Ordering}
use Rattle.std.specs.declared.cmp.Ordering.TheVariants.{Less, Equal, Greater}
use Rattle.std.proofs.lemmas.Bool.{cases_eq}
use Rattle.wi_weight.specs.Weights.{IsWeight, AtMost, plus}
use Rattle.wi_weight.specs.lemmas.Order.{at_most_both, below_from_at_most}
use Rattle.wi_quantity.specs.Weighing.{components}
use Rattle.wi_pds.specs.Closed.{Summary, Listed, Within, HasRow, AreClosedRows}
use Rattle.wi_pds.specs.Runs.{Pops}
use Rattle.wi_pds.proofs.Join.{rule_pops}
use Rattle.wi_rules.proofs.Lists.{In, in_contains, contains_in}
use Rattle.wi_build.specs.Problems.{Problem}
use Rattle.wi_build.specs.Systems.{scale, rules}
use Rattle.wi_cert.specs.declared.closed.Closed.{Closed}
use Rattle.wi_cert.specs.declared.check_refused.ClosedRefused.{ClosedRefused}
use Rattle.wi_cert.specs.declared.check_refused.ClosedRefused.TheVariants.{HeadMissing, PairMissing, GoalBelow, NotClosed}
use Rattle.wi_accept.specs.Demands.{row}
use Rattle.wi_accept.specs.Causes.{rows_of, missing_in, goal_in, open_in, IsClosedCause}
use Rattle.wi_accept.specs.Makers.{AreLeast, IsLeastWithin}
use Rattle.wi_accept.proofs.ClosedLaws.{nothing_missing, nothing_open, no_weight_to, AreUnique}
use Rattle.wi_accept.proofs.ListLemmas.{both_or_not, some_or_none}
use Rattle.wi_accept.proofs.WeightLemmas.{scale_laws, admitted, pops_weight}
use Rattle.wi_accept.proofs.LeastLemmas.{least_there}

at_most_or_not : (a b : List ℕ) → AtMost scale a b ⊎ (AtMost scale a b → ⊥)
at_most_or_not a b = go (scale.order a b) refl
  where
    go : (o : Ordering) → scale.order a b ≡ o → AtMost scale a b ⊎ (AtMost scale a b → ⊥)
    go Less e = inl (λ g. cc)
    go Equal e = inl (λ g. cc)
    go Greater e = inr (λ n. n e)

-- the row is for it, of at most w
abbrev IsRowFor : ℕ → ℕ → ℕ → List ℕ → Summary → Type 0
IsRowFor p g q w r = (r.p ≡ p) × ((r.g ≡ g) × ((r.q ≡ q) × AtMost scale r.weight w))

-- whether there is a row can be told
row_or_not : (rows : List Summary) (p g q : ℕ) (w : List ℕ) → HasRow scale rows p g q w ⊎ (HasRow scale rows p g q w → ⊥)
row_or_not rows p g q w =
    elim (some_or_none (IsRowFor p g q w) (λ r. both_or_not (cases_eq r.p p) (both_or_not (cases_eq r.g g) (both_or_not (cases_eq r.q q) (at_most_or_not r.weight w)))) rows) [
      | inl k ↦ inl (k.0.weight, in_contains rows (row p g q k.0.weight) (subst (In rows) (same k.0 k.2.0 k.2.1.0 k.2.1.1.0) k.1), k.2.1.1.1)
      | inr n ↦ inr (λ h. n (row p g q h.0) (contains_in rows (row p g q h.0) h.1) (refl, (refl, (refl, h.2))))
    ]
  where
    same : (r : Summary) → r.p ≡ p → r.g ≡ g → r.q ≡ q → r ≡ row p g q r.weight
    same r i j l = ap (λ n. row n r.g r.q r.weight) i ∙ ap (λ n. row p n r.q r.weight) j ∙ ap (λ n. row p g n r.weight) l

-- what is no more than something within the bound is within it
within_at_most : (bound : Option (List ℕ)) → IfSome bound (λ b. IsWeight scale b) → (a b : List ℕ) → IsWeight scale a → IsWeight scale b → AtMost scale a b → Within scale bound b → Within scale bound a
within_at_most None k a b ha hb most within = tt
within_at_most (Some d) k a b ha hb most within = below_from_at_most scale_laws a b d ha hb k most within

module _ (problem : Problem) (terms : ℕ) (bound : Option (List ℕ)) (c : Closed) (least : AreLeast problem terms bound c) (bound_is : IfSome bound (λ w. IsWeight scale w))
    (none_within : (w : List ℕ) → Pops scale components (rules problem) 0 0 1 w → Within scale bound w → ⊥) where
  abbrev rows : List Summary
  rows = rows_of terms c.rows

  -- a listed row is of a least run
  listed_least : (p g q : ℕ) (w : List ℕ) → Listed rows p g q w → IsLeastWithin problem c.heads bound p g q w
  listed_least p g q w at = (least.rows p g q w).0 at

  listed_weight : (p g q : ℕ) (w : List ℕ) → Listed rows p g q w → IsWeight scale w
  listed_weight p g q w at = pops_weight (rules problem) p g q w (listed_least p g q w at).least.0

  -- of one summary there is one least weight
  unique : AreUnique rows
  unique p g q w x at other =
      let first = (listed_least p g q w at).least in
      let second = (listed_least p g q x other).least in
      at_most_both scale_laws w x (listed_weight p g q w at) (listed_weight p g q x other) (first.1 x second.0) (second.1 w first.0)

  -- what a rule makes of listed rows has a least run of at most its weight, and that is listed
  rows_closed : AreClosedRows scale components (rules problem) c.heads rows bound
  rows_closed = record {
    weights = listed_weight;
    bound_weight = bound_is;
    each = λ p g r q w head rule chain within.
        let sum : List ℕ = plus (components r.weight) w in
        let pops : Pops scale components (rules problem) p g q sum
        = rule_pops scale components scale_laws admitted (rules problem) rows (λ p g q w at. (listed_least p g q w at).least.0) p g r q w rule chain in
        elim (row_or_not rows p g q sum) [
          | inl there ↦ there
          | inr n ↦ absurd (least_there (rules problem) p g q sum pops (λ x is_least most.
              n (
                x,
                (least.rows p g q x).1 (record {
                  head = head;
                  least = is_least;
                  within = within_at_most bound bound_is x sum (pops_weight (rules problem) p g q x is_least.0) (pops_weight (rules problem) p g q sum pops) most within;
                }),
                most,
              )))
        ];
  }

  -- nothing is missing, no row leads to the goal, and none that has to be there isn't
  none_missing : missing_in problem c ≡ None
  none_missing = nothing_missing (rules problem) (0, 0) c.heads c.pairs least.closed.closed

  none_below : goal_in terms c ≡ None
  none_below = no_weight_to rows 0 0 1 (λ w at. let row = listed_least 0 0 1 w at in none_within w row.least.0 row.within)

  none_open : open_in problem terms bound c ≡ None
  none_open = nothing_open scale components scale_laws admitted (rules problem) c.heads rows bound unique rows_closed

  -- no cause of any kind
  pub nothing_open_in : (r : ClosedRefused) → IsClosedCause problem terms bound c r → ⊥
  nothing_open_in (HeadMissing p g) h = let none = none_missing in cc
  nothing_open_in (PairMissing u v) h = let none = none_missing in cc
  nothing_open_in (GoalBelow w) h = let none = none_below in cc
  nothing_open_in (NotClosed head target sum) h = let none = none_open in cc
