-- What a table of least summaries below a cut says of the runs of the network.
use Rattle.std.proofs.Common.{◌≡◌, ℕ, ◌<◌, ◌≤◌, ◌^◌, List, [], ◌∷◌, ◌++◌, Option, Some, None, length, slice_get, slice_index_or, refl, arith, ap, sym, ◌∙◌, subst}
use Rattle.std.specs.Prelude.{IfSome, IsSome, MatchOption, option_map}
use Rattle.wi_weight.specs.declared.kinds.Pair.{Pair}
use Rattle.wi_weight.specs.declared.kinds.Terms.{Terms}
use Rattle.wi_weight.specs.declared.kinds.Effort.{Effort}
use Rattle.wi_weight.specs.Weights.{EachBelow, IsWeight}
use Rattle.wi_net.specs.Net.{Net}
use Rattle.wi_world.specs.declared.run.Run.{Run}
use Rattle.wi_world.specs.Moving.{IsMovingRun}
use Rattle.wi_world.specs.Runs.{effort_of}
use Rattle.wi_world.specs.Holds.{Matches, NoneMovingLess}
use Rattle.wi_quantity.specs.Weighing.{components}
use Rattle.wi_pds.specs.declared.rule.Rule.{Rule}
use Rattle.wi_pds.specs.declared.rule.RuleId.{RuleId}
use Rattle.wi_pds.specs.Runs.{Least, Pops}
use Rattle.wi_pds.specs.Closed.{Within}
use Rattle.wi_pds.specs.LeastClosed.{AreLeastClosed}
use Rattle.wi_saturate.specs.declared.row.Row.{Row}
use Rattle.wi_saturate.specs.Rows.{IsFor, TableView}
use Rattle.wi_saturate.proofs.Elements.{get_last}
use Rattle.wi_witness.specs.GoalRuns.{IsNamedRun}
use Rattle.wi_rules.specs.Numbers.{Layout, layout_of}
use Rattle.wi_build.specs.Problems.{IsAnswering, Problem, IsProblem, asks, weighs}
use Rattle.wi_build.specs.Encodings.{encoding_of}
use Rattle.wi_build.specs.Systems.{rules, rules_by, scale}
use Rattle.wi_trees.specs.Trees.{NoRunBelow}
use Rattle.wi_decide.specs.Spelled.{AreRulesFor}
use Rattle.wi_decide.specs.declared.refused.SearchRefused.{SearchRefused}
use Rattle.wi_decide.specs.declared.refused.SearchRefused.TheVariants.{Overflow, TooLong, Memory}
use Rattle.wi_decide.specs.private.Tables.{HasTable, IsNoTable, IsNotShown, IsTable}
use Rattle.wi_decide.specs.Searches.{AllFitBelow, IsLeastBelow, IsTooLongBelow, IsSearchRefused}
use Rattle.wi_accept.proofs.OrderLemmas.{below_within, not_less, within_below}
use Rattle.wi_accept.proofs.RuleLemmas.{answers_pop, pops_answer}
use Rattle.wi_accept.proofs.WeightLemmas.{six_components, effort_at}

-- a problem's rules, with its network and the layout of its spots
pub rules_for : (problem : Problem) (net : Net) (layout : Layout) → IsProblem problem → net ≡ problem.net → layout ≡ layout_of (encoding_of problem) → AreRulesFor problem net layout (rules_by (encoding_of problem))
rules_for problem net layout k net_is layout_is = record { is_problem = k; net_is = sym net_is; layout_is = layout_is; rules_are = refl }

-- a cut is a weight, if there is one
cut_weight : (cut : Option (Pair Terms Effort)) → IfSome (option_map components cut) (λ b. IsWeight scale b)
cut_weight None = tt
cut_weight (Some c) = refl

module _ (problem : Problem) (k : IsProblem problem) where
  -- a moving run that matches is that of a goal run of its weight
  run_pops : (run : Run) → IsMovingRun problem.net problem.bounds run → Matches problem.net (asks problem) run → Pops scale components (rules_by (encoding_of problem)) 0 0 1 (weighs problem run)
  run_pops run moving matches = answers_pop problem k (weighs problem run) run (record { moving = moving; matches = matches; weight = refl })

  -- no run weighs less than the least goal run
  none_less : (w : List ℕ) → length w ≡ 6 → Least scale components (rules_by (encoding_of problem)) 0 0 1 w → NoneMovingLess problem.net (asks problem) (weighs problem) w
  none_less w six least run moving matches =
      not_less w (weighs problem run) (six ∙ sym (six_components problem.net problem.vector run))
      (least.1 (weighs problem run) (run_pops run moving matches))

  module _ (cut : Option (Pair Terms Effort)) (table : TableView (Pair Terms Effort)) (has : HasTable problem cut table) where
    -- each summary that comes before every run fits, whichever least closed heads it is of
    pub all_fit : AllFitBelow problem (option_map components cut)
    all_fit head target w o =
        let includes = o.closed.within has.heads has.pairs has.closed.closed in
        o.overflow.unfit
        (has.least.fits head.0 head.1 target w
        (record {
          head = includes.0 head o.overflow.wanted.head;
          least = o.overflow.wanted.least;
          no_lighter_goal = o.overflow.wanted.no_lighter_goal;
          within = o.overflow.wanted.within;
        }))

    -- without a goal run nothing matches below the cut
    pub none_below : table.best ≡ None → NoRunBelow problem.net (asks problem) (weighs problem) (option_map components cut) problem.bounds
    none_below none run moving matches below =
        let P : Option (Pair Terms Effort) → Type 0 = λ b. MatchOption (option_map components b) ((x : List ℕ) → Pops scale components (rules_by (encoding_of problem)) 0 0 1 x → Within scale (option_map components cut) x → ⊥) (λ x. Unit {0}) in
        subst P none has.least.none (weighs problem run) (run_pops run moving matches) (below_within (option_map components cut) (cut_weight cut) (weighs problem run) (six_components problem.net problem.vector run) below)

    module _ (b : Pair Terms Effort) (some : table.best ≡ Some b) where
      goal_found : Least scale components (rules_by (encoding_of problem)) 0 0 1 (components b) × Within scale (option_map components cut) (components b)
      goal_found =
          let P : Option (Pair Terms Effort) → Type 0 = λ o. IfSome (option_map components o) (λ w. Least scale components (rules_by (encoding_of problem)) 0 0 1 w × Within scale (option_map components cut) w) in
          subst P some has.least.found

      -- a run that answers by the goal's weight is least
      pub is_least : (run : Run) → IsAnswering problem (components b) run → IsLeastBelow problem (option_map components cut) (components b) run
      is_least run a = record { answers = a; least = none_less (components b) refl goal_found.0; below = within_below (option_map components cut) (cut_weight cut) (components b) refl goal_found.1 }

      -- and has the goal's effort
      effort_is : (run : Run) → IsAnswering problem (components b) run → effort_of problem.net run ≡ b.second.count
      effort_is run a = sym (effort_at problem.net problem.vector run) ∙ ap (λ (w : List ℕ). slice_index_or w 5 0) a.weight

      pub is_short : (run : Run) → IsAnswering problem (components b) run → b.second.count ≤ 4096 → effort_of problem.net run ≤ 4096
      is_short run a short = let effort = effort_is run a in omega (arith, effort, short)

      -- some run's effort is the goal's
      too_long : 4096 < b.second.count → IsTooLongBelow problem (option_map components cut) b.second.count
      too_long long =
          let m = pops_answer problem k (components b) goal_found.0.0 in
          record { run = m.0; w = components b; least = is_least m.0 m.1; effort = effort_is m.0 m.1; long = long; fits = all_fit }

      -- it is what is shown, or its effort is over the limit
      pub not_shown : (refused : SearchRefused) → IsNotShown b.second.count refused → IsSearchRefused problem (option_map components cut) refused
      not_shown (Overflow o) h = absurd h
      not_shown (TooLong n) h = subst (λ (m : ℕ). IsTooLongBelow problem (option_map components cut) m) (sym h.0) (too_long h.1)
      not_shown Memory h = tt

-- without a table a summary doesn't fit
pub no_table : (problem : Problem) (cut : Option (Pair Terms Effort)) (heads pairs : List (ℕ × ℕ)) (refused : SearchRefused) → AreLeastClosed (rules problem) (0, 0) heads pairs
    → IsNoTable problem heads cut refused → IsSearchRefused problem (option_map components cut) refused
no_table problem cut heads pairs (Overflow o) closed h = record { heads = heads; pairs = pairs; closed = closed; overflow = h }
no_table problem cut heads pairs (TooLong n) closed h = absurd h
no_table problem cut heads pairs Memory closed h = tt

-- the run that a goal run's ids spell answers
pub spelled_answers : (problem : Problem) (best : Option (Pair Terms Effort)) (rules : ℕ → ℕ → List (Rule (Pair Terms Effort))) (ids : List RuleId) (run : Run) → IsSome best
    → IfSome best (λ w. IsNamedRun scale components rules 0 0 1 ids (components w))
    → ((w : List ℕ) → IsNamedRun scale components rules 0 0 1 ids w → IsAnswering problem w run)
    → IfSome best (λ w. IsAnswering problem (components w) run)
spelled_answers problem None rules ids run some named answers = cc
spelled_answers problem (Some b) rules ids run some named answers = answers (components b) named

-- what there is of a value that is there
pub there : {A : Type 0} (P : A → Type 0) (o : Option A) → IsSome o → IfSome o P → (a : A) × P a
there P None some h = cc
there P (Some a) some h = (a, h)

-- the goal's weight has components of 64 bits, since its row fits
pub goal_fits : (problem : Problem) (heads : List (ℕ × ℕ)) (cut : Option (Pair Terms Effort)) (table : TableView (Pair Terms Effort)) (b : Pair Terms Effort) → IsTable problem heads cut table → table.best ≡ Some b → EachBelow (2 ^ 64) (components b)
goal_fits problem heads cut table b is some =
    let P : Option (Pair Terms Effort) → Type 0 = λ o. IfSome (option_map components o) (λ w. (front : List (Row (Pair Terms Effort))) × (row : Row (Pair Terms Effort)) × (table.rows ≡ front ++ row ∷ []) × IsFor 0 0 1 row × (components row.weight ≡ w)) in
    let last = subst P some is.last in
    let there : slice_get table.rows (length last.0) ≡ Some last.1 = ap (λ (rows : List (Row (Pair Terms Effort))). slice_get rows (length last.0)) last.2 ∙ get_last last.0 last.1 in
    subst (λ (w : List ℕ). EachBelow (2 ^ 64) w) last.4 (is.settled (length last.0) last.1 there).fits

effort_fits : (problem : Problem) (cut : Option (Pair Terms Effort)) (table : TableView (Pair Terms Effort)) (b : Pair Terms Effort) → HasTable problem cut table → table.best ≡ Some b → b.second.count < 2 ^ 64
effort_fits problem cut table b has some = (goal_fits problem has.heads cut table b has.least some).1.1.1.1.1.0

-- and so does an effort that is shown as too long
pub long_fits : (problem : Problem) (cut : Option (Pair Terms Effort)) (table : TableView (Pair Terms Effort)) (limit shown : ℕ) → HasTable problem cut table → IsSome table.best
    → IfSome table.best (λ w. (limit < w.second.count) × (shown ≡ w.second.count)) → shown < 2 ^ 64
long_fits problem cut table limit shown has reached long = go table.best refl reached long
  where
    go : (o : Option (Pair Terms Effort)) → table.best ≡ o → IsSome o → IfSome o (λ w. (limit < w.second.count) × (shown ≡ w.second.count)) → shown < 2 ^ 64
    go None e some h = cc
    go (Some b) e some h = let fits = effort_fits problem cut table b has e in let same : shown ≡ b.second.count = h.1 in omega (arith, fits, same)
