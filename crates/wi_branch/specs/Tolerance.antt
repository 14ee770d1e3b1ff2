-- How many failures it takes, and why that isn't known.
use Rattle.std.specs.Prelude.{◌≡◌, ℕ, ◌<◌, ◌≤◌, zero, suc, true, List, Option, Some, None}
use Rattle.wi_net.specs.declared.parts.LinkId.{LinkId}
use Rattle.wi_world.specs.declared.answer.Word.TheVariants.{Yes, No}
use Rattle.wi_world.specs.declared.run.Run.{Run}
use Rattle.wi_world.specs.Holds.{Matches}
use Rattle.wi_world.specs.Moves.{is_trace, IsAllowed}
use Rattle.wi_trace.specs.declared.answer.Answer.{Answer}
use Rattle.wi_cert.specs.declared.tree.TreeCertificate.{TreeCertificate}
use Rattle.wi_build.specs.Problems.{Problem, asks}
use Rattle.wi_accept.specs.Trees.{IsTreeAccepted}
use Rattle.wi_branch.specs.Exactly.{IsExact, IsExactRefused}
use Rattle.wi_branch.specs.declared.refused.ExactRefused.TheVariants as exact
use Rattle.wi_branch.specs.declared.tolerance.Tolerance.{Tolerance}
use Rattle.wi_branch.specs.declared.tolerance.Tolerance.TheVariants.{At, NoneUpTo}
use Rattle.wi_branch.specs.declared.tolerance.TolerateRefused.{TolerateRefused}
use Rattle.wi_branch.specs.declared.tolerance.TolerateRefused.TheVariants.{Exact, Memory}

-- under some set of links that may fail there is a matching trace
pub record HasTrace (problem : Problem) : Type 0 where
  pub fails : List LinkId
  pub run : Run
  pub allowed : IsAllowed problem.net problem.bounds fails
  pub trace : is_trace problem.net fails run ≡ true
  pub matches : Matches problem.net (asks problem) run

-- so many failures are fewer than it takes; `asked` gives the problem where so many may fail
abbrev pub IsTolerated : (ℕ → Problem) → ℕ → Type 0
IsTolerated asked k = HasTrace (asked k) → ⊥

-- the least number of failures under which there is a matching trace
pub record IsTolerance (asked : ℕ → Problem) (k : ℕ) : Type 0 where
  pub there : HasTrace (asked k)
  pub least : (j : ℕ) → j < k → IsTolerated asked j

-- an exact answer, a yes, and its tree, which is accepted
pub record ShowsYes (problem : Problem) (limit : ℕ) (answer : Answer) (yes : TreeCertificate) : Type 0 where
  pub word : answer.word ≡ Yes
  pub exact : IsExact problem limit answer yes
  pub accepted : IsTreeAccepted problem yes

-- the tree of an exact answer that is a no, which is accepted
pub record ShowsNo (problem : Problem) (limit : ℕ) (no : TreeCertificate) : Type 0 where
  pub answer : Answer
  pub word : answer.word ≡ No
  pub exact : IsExact problem limit answer no
  pub accepted : IsTreeAccepted problem no

-- at one failure fewer the answer is no; at no failures there is no fewer
abbrev pub ShowsBelow : (ℕ → Problem) → ℕ → ℕ → Option TreeCertificate → Type 0
ShowsBelow asked limit zero None = Unit {0}
ShowsBelow asked limit (suc j) (Some tree) = ShowsNo (asked j) limit tree
ShowsBelow asked limit k below = ⊥

-- how many failures it takes, if they are at most so many; or that it takes more
abbrev pub TellsTolerance : (ℕ → Problem) → ℕ → ℕ → Tolerance → Type 0
TellsTolerance asked most limit (At k answer tree below) =
    (k ≤ most) × IsTolerance asked k × ShowsYes (asked k) limit answer tree × ShowsBelow asked limit k below
TellsTolerance asked most limit (NoneUpTo tree) = ((j : ℕ) → j ≤ most → IsTolerated asked j) × ShowsNo (asked most) limit tree

-- there is no exact answer for this number, and each smaller one is fewer than it takes
abbrev pub IsStoppedUpTo : (ℕ → Problem) → ℕ → ℕ → TolerateRefused → Type 0
IsStoppedUpTo asked most limit (Exact k refused) =
    (k ≤ most) × ((j : ℕ) → j < k → IsTolerated asked j) × (refused ≡ exact.Memory → ⊥) × IsExactRefused (asked k) limit refused
IsStoppedUpTo asked most limit Memory = Unit {0}
