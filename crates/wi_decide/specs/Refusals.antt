-- Why a problem isn't decided: what a search without a cut refuses.
use Rattle.std.specs.Prelude.{ℕ, ◌≤◌, List, None, IfSome}
use Rattle.wi_world.specs.Runs.{effort_of}
use Rattle.wi_trace.specs.declared.answer.Answer.{Answer}
use Rattle.wi_build.specs.Problems.{Problem}
use Rattle.wi_decide.specs.declared.searching.TheConstants.{EFFORT_LIMIT}
use Rattle.wi_decide.specs.Searches.{IsOverflowingBelow, AllFitBelow, IsTooLongBelow}

-- a summary of the least closed heads that doesn't fit and that no run to the goal is lighter than; none of these is lighter
pub record IsOverflowing (problem : Problem) (w : List ℕ) : Type 0 where
  pub head : ℕ × ℕ
  pub target : ℕ
  pub overflow : IsOverflowingBelow problem None head target w

-- there is no such summary
abbrev pub AllFit : Problem → Type 0
AllFit problem = AllFitBelow problem None

-- a matching moving run than which none weighs less has this effort, and it is over the limit
abbrev pub IsTooLong : Problem → ℕ → Type 0
IsTooLong problem n = IsTooLongBelow problem None n

-- neither refusal is due
pub record IsUnrefused (problem : Problem) (a : Answer) : Type 0 where
  pub fits : AllFit problem
  pub short : IfSome a.run (λ run. effort_of problem.net run ≤ EFFORT_LIMIT)
