-- What a number of failures tells, where each smaller one is too few.
use Rattle.std.specs.Prelude.{ℕ, ◌+◌, ◌-◌, ◌<◌, ◌≤◌, Bool, not, ◌&&◌, ◌==◌, List, length, Option, Some}
use Rattle.wi_net.specs.declared.parts.LinkId.{LinkId}
use Rattle.wi_net.specs.declared.bounds.Bounds.{Bounds}
use Rattle.wi_net.specs.LinkSet.{has, outside}
use Rattle.wi_net.specs.Net.{Net, all_links, risk_count, risk_of}
use Rattle.wi_world.specs.declared.answer.Word.{Word}
use Rattle.wi_world.specs.declared.answer.Word.TheVariants.{Yes, No, Inconclusive}
use Rattle.wi_world.specs.declared.answer.Verdict.{Verdict}
use Rattle.wi_world.specs.declared.answer.Verdict.TheVariants.{Fits}
use Rattle.wi_trace.specs.declared.answer.Answer.{Answer}
use Rattle.wi_cert.specs.declared.tree.TreeCertificate.{TreeCertificate}
use Rattle.wi_build.specs.Problems.{Problem}
use Rattle.wi_accept.specs.Trees.{IsTreeAccepted}
use Rattle.wi_branch.specs.Exactly.{IsExact}
use Rattle.wi_branch.specs.Tolerance.{HasTrace, IsTolerated, ShowsBelow, ShowsNo, ShowsYes, TellsTolerance}
use Rattle.wi_branch.specs.declared.counting.Between.{Between}
use Rattle.wi_branch.specs.declared.counting.Trial.{Trial}
use Rattle.wi_branch.specs.declared.counting.Trial.TheVariants.{Enough, TooFew}
use Rattle.wi_branch.specs.declared.refused.ExactRefused.{ExactRefused}
use Rattle.wi_branch.specs.declared.refused.ExactRefused.TheVariants as exact
use Rattle.wi_branch.specs.declared.tolerance.Tolerance.{Tolerance}
use Rattle.wi_branch.specs.declared.tolerance.Tolerance.TheVariants.{At}
use Rattle.wi_branch.specs.declared.tolerance.TolerateRefused.{TolerateRefused}
use Rattle.wi_branch.specs.declared.tolerance.TolerateRefused.TheVariants.{Exact, Memory}

-- a link stands for its risk group, which isn't known
abbrev pub is_group_outside : Net → List LinkId → LinkId → Bool
is_group_outside net known e = not (has known e) && ((risk_of net e).0 == e.0)

-- how many risk groups can fail besides those that are known to be down
abbrev pub groups_besides : Net → List LinkId → ℕ
groups_besides net known = risk_count net (outside (all_links net) known)

-- each number below one is fewer failures than it takes
abbrev pub AreTolerated : (ℕ → Problem) → ℕ → Type 0
AreTolerated asked k = (j : ℕ) → j < k → IsTolerated asked j

-- each number up to one is fewer failures than it takes, and a tree shows that of the last
abbrev pub IsShownTolerated : (ℕ → Problem) → ℕ → ℕ → TreeCertificate → Type 0
IsShownTolerated asked limit k tree = AreTolerated asked (k + 1) × ShowsNo (asked k) limit tree

-- what a number tells: it is the least, whatever number from it on is the most that is asked for; or it is too small, as a tree shows
abbrev pub IsTrial : (ℕ → Problem) → ℕ → ℕ → Trial → Type 0
IsTrial asked limit k (Enough found) = (most : ℕ) → k ≤ most → TellsTolerance asked most limit found
IsTrial asked limit k (TooFew tree) = IsShownTolerated asked limit k tree

-- an exact answer's word tells which of them
abbrev pub trial_by : Word → ℕ → Answer → TreeCertificate → Option TreeCertificate → Trial
trial_by Yes k answer tree below = Enough (At k answer tree below)
trial_by No k answer tree below = TooFew tree
trial_by Inconclusive k answer tree below = TooFew tree

-- the refusal where there is no exact answer at a number
abbrev pub stopped_with : ℕ → ExactRefused → TolerateRefused
stopped_with k exact.Memory = Memory
stopped_with k refused = Exact k refused

-- an exact answer to a problem, with its tree, against which nothing speaks
pub record IsProbe (problem : Problem) (limit : ℕ) (answer : Answer) (tree : TreeCertificate) : Type 0 where
  pub exact : IsExact problem limit answer tree
  pub accepted : IsTreeAccepted problem tree

-- a number below which all are too few, as a tree shows, and one that is enough, at most the most that is asked for
pub record IsBetween (asked : ℕ → Problem) (most limit : ℕ) (between : Between) : Type 0 where
  pub order : between.low ≤ between.high
  pub within : between.high ≤ most
  pub fewer : AreTolerated asked between.low
  pub below : ShowsBelow asked limit between.low between.below
  pub there : HasTrace (asked between.high)
  pub shown : ShowsYes (asked between.high) limit between.answer between.yes

-- how many links have failed in an answer besides those known to be down
abbrev pub failed_besides : Bounds → Option Verdict → ℕ
failed_besides bounds (Some (Fits fails)) = length fails - length bounds.down
failed_besides bounds verdict = 0

-- what an exact answer for a number between the two tells
abbrev pub narrowed_by : Word → Between → ℕ → Answer → TreeCertificate → Between
narrowed_by Yes between k answer tree = record between { high = k; answer = answer; yes = tree }
narrowed_by _ between k answer tree = record between { low = k + 1; below = Some tree }

abbrev pub narrowed : Between → ℕ → Answer → TreeCertificate → Between
narrowed between k answer tree = narrowed_by answer.word between k answer tree

-- where the two meet it is the least number
abbrev pub met : Between → Tolerance
met between = At between.high between.answer between.yes between.below
