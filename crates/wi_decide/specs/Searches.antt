-- What is found for a problem below a cut: a least matching moving run, or that there is none; what shows that nothing is lighter;
-- and why it isn't known.
use Rattle.std.specs.Prelude.{◌≡◌, ℕ, ◌<◌, ◌≤◌, List, filter, length, Option, Some, None, option_map}
use Rattle.std.specs.Option.{option_or}
use Rattle.wi_weight.specs.declared.kinds.Pair.{Pair}
use Rattle.wi_weight.specs.declared.kinds.Terms.{Terms}
use Rattle.wi_weight.specs.declared.kinds.Effort.{Effort}
use Rattle.wi_world.specs.declared.run.Run.{Run}
use Rattle.wi_world.specs.Runs.{effort_of}
use Rattle.wi_world.specs.Holds.{NoneMovingLess}
use Rattle.wi_quantity.specs.Weighing.{components}
use Rattle.wi_pds.specs.LeastClosed.{AreLeastClosed}
use Rattle.wi_saturate.specs.LeastTables.{IsLeastTable, IsOverflow}
use Rattle.wi_build.specs.Problems.{Problem, IsAnswering, asks, weighs}
use Rattle.wi_build.specs.Systems.{scale, rules}
use Rattle.wi_cert.specs.declared.shown.Shown.{Shown}
use Rattle.wi_cert.specs.declared.closed.Closed.{Closed}
use Rattle.wi_cert.specs.Shown.{IsShown}
use Rattle.wi_cert.specs.Closed.{IsClosed, is_lighter}
use Rattle.wi_accept.specs.Causes.{bound_of}
use Rattle.wi_accept.specs.Makers.{AreLeast}
use Rattle.wi_trees.specs.Trees.{IsBelow, NoRunBelow}
use Rattle.wi_decide.specs.declared.searching.TheConstants.{EFFORT_LIMIT}
use Rattle.wi_decide.specs.declared.searching.LeastRun.{LeastRun}
use Rattle.wi_decide.specs.declared.searching.Evidence.{Evidence}
use Rattle.wi_decide.specs.declared.refused.SearchRefused.{SearchRefused}
use Rattle.wi_decide.specs.declared.refused.SearchRefused.TheVariants.{Overflow, TooLong, Memory}

-- a summary of the least closed heads that doesn't fit, is below the cut, and that no run to the goal is lighter than; none of
-- these is lighter
pub record IsOverflowingBelow (problem : Problem) (cut : Option (List ℕ)) (head : ℕ × ℕ) (target : ℕ) (w : List ℕ) : Type 0 where
  pub heads : List (ℕ × ℕ)
  pub pairs : List (ℕ × ℕ)
  pub closed : AreLeastClosed (rules problem) (0, 0) heads pairs
  pub overflow : IsOverflow scale components (rules problem) heads (0, 0, 1) cut head.0 head.1 target w

-- there is no such summary
abbrev pub AllFitBelow : Problem → Option (List ℕ) → Type 0
AllFitBelow problem cut = (head : ℕ × ℕ) (target : ℕ) (w : List ℕ) → IsOverflowingBelow problem cut head target w → ⊥

-- a matching moving run of this weight, which is below the cut, and none weighs less
pub record IsLeastBelow (problem : Problem) (cut : Option (List ℕ)) (w : List ℕ) (run : Run) : Type 0 where
  pub answers : IsAnswering problem w run
  pub least : NoneMovingLess problem.net (asks problem) (weighs problem) w
  pub below : IsBelow cut w

-- such a run is there, and its effort is over the limit
pub record IsTooLongBelow (problem : Problem) (cut : Option (List ℕ)) (n : ℕ) : Type 0 where
  pub run : Run
  pub w : List ℕ
  pub least : IsLeastBelow problem cut w run
  pub effort : effort_of problem.net run ≡ n
  pub long : EFFORT_LIMIT < n
  pub fits : AllFitBelow problem cut

-- a least run below the cut whose effort is within the limit, or that there is none
abbrev pub IsFound : Problem → Option (List ℕ) → Option LeastRun → Type 0
IsFound problem cut None = NoRunBelow problem.net (asks problem) (weighs problem) cut problem.bounds
IsFound problem cut (Some found) = IsLeastBelow problem cut (components found.weight) found.run × (effort_of problem.net found.run ≤ EFFORT_LIMIT)

-- why it isn't known
abbrev pub IsSearchRefused : Problem → Option (List ℕ) → SearchRefused → Type 0
IsSearchRefused problem cut (Overflow o) = IsOverflowingBelow problem cut o.head o.target (components o.weight)
IsSearchRefused problem cut (TooLong n) = IsTooLongBelow problem cut n
IsSearchRefused problem cut Memory = Unit {0}

-- the least closed heads and pairs of a problem, and a table of their least summaries below a cut; what bounds every run then is the
-- weight of the table's goal, or the cut
pub record IsEvidence (problem : Problem) (bound : Option (List ℕ)) (e : Evidence) : Type 0 where
  pub closed : AreLeastClosed (rules problem) (0, 0) e.heads.heads e.heads.pairs
  pub cut : Option (Pair Terms Effort)
  pub table : IsLeastTable scale components (rules problem) e.heads.heads (0, 0, 1) (option_map components cut) e.table.rows (option_map components e.table.best)
  pub bound_is : bound ≡ option_map components (option_or e.table.best cut)

-- what bounds every run then: the weight of the run that was found, or the cut
abbrev pub bound_with : Option (List ℕ) → Option LeastRun → Option (List ℕ)
bound_with cut None = cut
bound_with cut (Some found) = Some (components found.weight)

-- with those rows alone that weigh less than what is shown
abbrev pub lowered : Shown → Closed → Closed
lowered s c = record c { rows = filter (is_lighter s) c.rows }

-- heads and pairs are the least closed ones, rows just the least summaries of these heads below the bound, and they can be written
-- under whatever shows the bound; with the lighter rows alone, under whatever is shown
pub record IsWrittenDown (problem : Problem) (bound : Option (List ℕ)) (c : Closed) : Type 0 where
  pub least : AreLeast problem (length problem.vector) bound c
  pub writable : (s : Shown) → IsShown s → s.terms ≡ length problem.vector → bound_of s ≡ bound → IsClosed s c
  pub lowered : (s : Shown) → IsShown s → s.terms ≡ length problem.vector → IsClosed s (lowered s c)
