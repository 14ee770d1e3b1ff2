-- What a table of least summaries says of detours.
use Rattle.std.proofs.Common.{◌≡◌, ◌⊎◌, ℕ, ◌+◌, ◌^◌, ◌<◌, ◌≤◌, Bool, true, false, not, is_some, List, [], ◌∷◌, length, Option, Some, None, IfSome, IsSome, option_map, refl, arith, ap, sym, ◌∙◌, subst, inl, inr}
use Rattle.std.proofs.lemmas.Bool.Decides.{nat_tests}
use Rattle.wi_net.specs.declared.parts.LinkId.{LinkId}
use Rattle.wi_weight.specs.Weights.{AtMost, EachBelow}
use Rattle.wi_weight.specs.declared.kinds.Pair.{Pair}
use Rattle.wi_weight.specs.declared.kinds.Effort.{Effort}
use Rattle.wi_pds.specs.declared.rule.RuleId.{RuleId}
use Rattle.wi_pds.specs.Runs.{Pops, Least}
use Rattle.wi_saturate.specs.Rows.{TableView}
use Rattle.wi_saturate.specs.LeastTables.{IsLeastTable, IsOverflow}
use Rattle.wi_witness.specs.GoalRuns.{IsNamedRun}
use Rattle.wi_witness.specs.Refusals.{IsRefusal}
use Rattle.wi_witness.specs.declared.refused.UnfoldRefused.TheVariants.{TooLong}
use Rattle.wi_detour.specs.Detours.{is_detour, length_of, AreNoLonger, IsLeastDetour}
use Rattle.wi_detour.specs.private.Around.{Around, IsAround, rules_around, spelled}
use Rattle.wi_detour.specs.private.Tables.{scale, components, HasTable}
use Rattle.wi_detour.proofs.WayLemmas.{Leads}
use Rattle.wi_detour.proofs.DetourLemmas.{ways_are_detours, detours_are_ways}
use Rattle.wi_detour.proofs.RunLemmas.{Shows, links_of, weight_of, names_spell, run_shows, way_run}
use Rattle.wi_detour.proofs.BoundLemmas.{near_by, shortened}

-- how two lengths compare
no_more : (d m e n : ℕ) → AtMost scale (d ∷ m ∷ []) (e ∷ n ∷ []) → (d < e) ⊎ ((d ≡ e) × (m ≤ n))
no_more d m e n h = grind (arith, nat_tests)

-- whether a table has a goal's weight, as a test of it tells
pub told_none : {X : Type 0} (o p : Option X) (b : Bool) → p ≡ o → is_some p ≡ not b → b ≡ true → o ≡ None
told_none None p b e f g = refl
told_none (Some x) p b e f g = cc

pub told_some : {X : Type 0} (o p : Option X) (b : Bool) → p ≡ o → is_some p ≡ not b → b ≡ false → IsSome o
told_some o p b e f g = ap (λ q. is_some q) (sym e) ∙ f ∙ ap not g

module _ (a : Around) (is : IsAround a) where
  -- a least weight is that of a way, and no way is less
  record IsLeastWay (p : ℕ) (w : List ℕ) : Type 0 where
    pub via : List LinkId
    pub leads : Leads a p via
    pub weighs : w ≡ weight_of a.net via
    pub least : (other : List LinkId) → Leads a p other → AreNoLonger a.net via other

  least_way : (p g q : ℕ) (w : List ℕ) → Least scale components (rules_around a) p g q w → IsLeastWay p w
  least_way p g q w h =
      let rs = h.0.0 in
      let shows : Shows a p g q rs = run_shows a rs p g q h.0.1 in
      let weighs : w ≡ weight_of a.net (links_of rs) = sym h.0.2 ∙ shows.3 in
      record {
        via = links_of rs;
        leads = shows.2;
        weighs = weighs;
        least = λ other leads.
            let run = way_run a other p leads in
            let pops : Pops scale components (rules_around a) p g q (weight_of a.net other) =
            subst (λ x. Pops scale components (rules_around a) p x q (weight_of a.net other)) (sym shows.0)
            (subst (λ x. Pops scale components (rules_around a) p 0 x (weight_of a.net other)) (sym shows.1) run) in
            no_more (length_of a.net (links_of rs)) (length (links_of rs)) (length_of a.net other) (length other)
            (subst (λ x. AtMost scale x (weight_of a.net other)) weighs (h.1 (weight_of a.net other) pops));
      }

  small_way : (d n : ℕ) → d ≤ 85903640887296 → n ≤ 20001 → EachBelow (2 ^ 64) (d ∷ n ∷ [])
  small_way d n le le' = (omega arith, (omega arith, tt))

  -- each least weight fits in 64 bits
  pub least_fits : (p g q : ℕ) (w : List ℕ) → Least scale components (rules_around a) p g q w → EachBelow (2 ^ 64) w
  least_fits p g q w h =
      let way : IsLeastWay p w = least_way p g q w h in
      let short = shortened a is.network.few_links p way.via way.leads in
      let no_longer = short.2 in
      let few = short.3 in
      let bound = near_by a.net short.0 is.network in
      subst (λ x. EachBelow (2 ^ 64) x) (sym way.weighs)
      (elim (way.least short.0 short.1) [
        | inl less ↦ absurd (omega (arith, less, no_longer))
        | inr k ↦
            (let same = k.0 in
            let fewer = k.1 in
            small_way (length_of a.net way.via) (length way.via) (omega (arith, same, bound, few)) (omega (arith, fewer, few)))
      ])

  -- no summary overflows
  pub none_overflows : (heads : List (ℕ × ℕ)) (p g q : ℕ) (w : List ℕ) → IsOverflow scale components (rules_around a) heads (0, 0, 1) None p g q w → ⊥
  none_overflows heads p g q w h = h.unfit (least_fits p g q w h.wanted.least)

  -- and no run is too long
  pub none_too_long : (table : TableView (Pair Effort Effort)) (limit effort : ℕ) → 2 ^ 64 ≤ limit + 1 → HasTable a table → IsSome table.best
      → IfSome table.best (λ w. IsRefusal w.second.count limit (TooLong effort)) → ⊥
  none_too_long table limit effort high has some refused = go table.best some refused has.least
    where
      go : (best : Option (Pair Effort Effort)) → IsSome best → IfSome best (λ w. IsRefusal w.second.count limit (TooLong effort))
          → IsLeastTable scale components (rules_around a) has.heads (0, 0, 1) None table.rows (option_map components best) → ⊥
      go None some refused least = cc
      go (Some w) some refused least =
          let fits = least_fits 0 0 1 (components w) least.found.0 in
          let small : w.second.count < 2 ^ 64 = fits.1.0 in
          let large : limit < w.second.count = refused.0 in
          omega arith

  -- where there is no way, there is no detour
  pub none_around : (table : TableView (Pair Effort Effort)) → HasTable a table → table.best ≡ None → (via : List LinkId) → is_detour a.net a.link via ≡ true → ⊥
  none_around table has none via h = go table.best none has.least
    where
      go : (best : Option (Pair Effort Effort)) → best ≡ None → IsLeastTable scale components (rules_around a) has.heads (0, 0, 1) None table.rows (option_map components best) → ⊥
      go None e least = least.none (weight_of a.net via) (way_run a via 0 (detours_are_ways a is via h)) tt
      go (Some w) e least = cc

  -- the links of a least run are a least detour
  pub found_around : (table : TableView (Pair Effort Effort)) (ids : List RuleId) (via : List LinkId) → HasTable a table → IsSome table.best → via ≡ spelled a ids
      → IfSome table.best (λ w. IsNamedRun scale components (rules_around a) 0 0 1 ids (components w)) → IsLeastDetour a.net a.link via
  found_around table ids via has some spells named = go table.best some named has.least
    where
      go : (best : Option (Pair Effort Effort)) → IsSome best → IfSome best (λ w. IsNamedRun scale components (rules_around a) 0 0 1 ids (components w))
          → IsLeastTable scale components (rules_around a) has.heads (0, 0, 1) None table.rows (option_map components best) → IsLeastDetour a.net a.link via
      go None some named least = cc
      go (Some w) some named least =
          let rs = named.0 in
          let shows : Shows a 0 0 1 rs = run_shows a rs 0 0 1 named.1 in
          let same : via ≡ links_of rs = spells ∙ names_spell a ids rs 0 (0 ∷ []) named.2 in
          let weighs : components w ≡ weight_of a.net (links_of rs) = sym named.3 ∙ shows.3 in
          subst (λ v. IsLeastDetour a.net a.link v) (sym same) (record {
            is = ways_are_detours a is (links_of rs) shows.2;
            least = λ other h.
                let run = way_run a other 0 (detours_are_ways a is other h) in
                no_more (length_of a.net (links_of rs)) (length (links_of rs)) (length_of a.net other) (length other)
                (subst (λ x. AtMost scale x (weight_of a.net other)) weighs (least.found.0.1 (weight_of a.net other) run));
          })
