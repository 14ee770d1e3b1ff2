-- The table of least summaries for a problem below a cut, and what is read from it.
use Rattle.std.specs.Prelude.{◌≡◌, ℕ, ◌<◌, List, Option, option_map}
use Rattle.wi_weight.specs.declared.kinds.Pair.{Pair}
use Rattle.wi_weight.specs.declared.kinds.Terms.{Terms}
use Rattle.wi_weight.specs.declared.kinds.Effort.{Effort}
use Rattle.wi_quantity.specs.Weighing.{components}
use Rattle.wi_pds.specs.LeastClosed.{AreLeastClosed}
use Rattle.wi_saturate.specs.Rows.{TableView}
use Rattle.wi_saturate.specs.LeastTables.{IsLeastTable, IsOverflow}
use Rattle.wi_build.specs.Problems.{Problem}
use Rattle.wi_build.specs.Encodings.{encoding_of}
use Rattle.wi_build.specs.Systems.{scale, rules_by}
use Rattle.wi_decide.specs.declared.searching.TheConstants.{EFFORT_LIMIT}
use Rattle.wi_decide.specs.declared.refused.SearchRefused.{SearchRefused}
use Rattle.wi_decide.specs.declared.refused.SearchRefused.TheVariants.{Overflow, TooLong, Memory}

-- least summaries of these heads below a cut, up to the goal: from the start with the bottom alone to the end
abbrev pub IsTable : Problem → List (ℕ × ℕ) → Option (Pair Terms Effort) → TableView (Pair Terms Effort) → Type 0
IsTable problem heads cut table =
    IsLeastTable scale components (rules_by (encoding_of problem)) heads (0, 0, 1) (option_map components cut) table.rows (option_map components table.best)

-- and those heads are the least closed ones
pub record HasTable (problem : Problem) (cut : Option (Pair Terms Effort)) (table : TableView (Pair Terms Effort)) : Type 0 where
  pub heads : List (ℕ × ℕ)
  pub pairs : List (ℕ × ℕ)
  pub closed : AreLeastClosed (rules_by (encoding_of problem)) (0, 0) heads pairs
  pub least : IsTable problem heads cut table

-- why there is no table: a summary doesn't fit
abbrev pub IsNoTable : Problem → List (ℕ × ℕ) → Option (Pair Terms Effort) → SearchRefused → Type 0
IsNoTable problem heads cut (Overflow o) =
    IsOverflow scale components (rules_by (encoding_of problem)) heads (0, 0, 1) (option_map components cut) o.head.0 o.head.1 o.target (components o.weight)
IsNoTable problem heads cut (TooLong n) = ⊥
IsNoTable problem heads cut Memory = Unit {0}

-- why no run is shown: the effort is over the limit
abbrev pub IsNotShown : ℕ → SearchRefused → Type 0
IsNotShown effort (Overflow o) = ⊥
IsNotShown effort (TooLong n) = (n ≡ effort) × (EFFORT_LIMIT < effort)
IsNotShown effort Memory = Unit {0}
