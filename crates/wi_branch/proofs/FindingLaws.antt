-- What a least run at a branch tells is told well.
use Rattle.std.proofs.Common.{ℕ, ◌^◌, List, Option, Some, sym, subst}
use Rattle.wi_weight.specs.Weights.{EachBelow}
use Rattle.wi_quantity.specs.Weighing.{components}
use Rattle.wi_build.specs.Problems.{Problem}
use Rattle.wi_decide.specs.declared.searching.LeastRun.{LeastRun}
use Rattle.wi_decide.specs.Searches.{IsFound}
use Rattle.wi_branch.specs.declared.finding.Told.{Told}
use Rattle.wi_branch.specs.declared.finding.Told.TheVariants.{Nothing, Fitting, Splitting}
use Rattle.wi_branch.specs.private.Courses.{IsBest, IsJudged, IsToldWell}

pub judged_well : (problem : Problem) (cut : Option (List ℕ)) (found : LeastRun) (told : Told) → EachBelow (2 ^ 64) (components found.weight) → IsFound problem cut (Some found)
    → IsJudged problem.net problem.bounds found told → IsToldWell problem told
judged_well problem cut found (Nothing leaf) small is h = absurd h
judged_well problem cut found (Fitting shown leaf) small is h =
    subst (λ (s : LeastRun). IsBest problem s) (sym h.0) (record { answers = is.0.answers; small = small; fitting = h.1 })
judged_well problem cut found (Splitting e) small is h = h.2
