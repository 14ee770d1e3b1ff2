-- Why a certificate isn't believed, and which cause is told.
use Rattle.std.specs.Prelude.{◌≡◌, ◌≢◌, ℕ, ◌+◌, ◌*◌, ◌<◌, Bool, true, false, if◌then◌else◌, List, map, length, Option, Some, None, is_some}
use Rattle.wi_net.specs.Net.{Net}
use Rattle.wi_world.specs.declared.run.Run.{Run}
use Rattle.wi_world.specs.declared.answer.Verdict.{Verdict}
use Rattle.wi_world.specs.declared.answer.Verdict.TheVariants.{Fits, Exceeds, UsesFailed}
use Rattle.wi_world.specs.Runs.{links_of, last_header, verdict_of}
use Rattle.wi_world.specs.Holds.{Question}
use Rattle.wi_quantity.specs.Weighing.{components}
use Rattle.wi_trace.specs.declared.cause.Cause.{Cause}
use Rattle.wi_trace.specs.Replays.{moving_fault}
use Rattle.wi_pds.specs.Closed.{Summary}
use Rattle.wi_build.specs.Problems.{Problem, asks, weighs}
use Rattle.wi_build.specs.Systems.{scale, rules}
use Rattle.wi_cert.specs.declared.certificate.Certificate.{Certificate}
use Rattle.wi_cert.specs.declared.shown.Claim.{Claim}
use Rattle.wi_cert.specs.declared.shown.Claim.TheVariants as claims
use Rattle.wi_cert.specs.declared.shown.Shown.{Shown}
use Rattle.wi_cert.specs.declared.closed.Closed.{Closed}
use Rattle.wi_cert.specs.declared.row.Row.{Row}
use Rattle.wi_cert.specs.declared.check_refused.RunPart.{RunPart}
use Rattle.wi_cert.specs.declared.check_refused.RunPart.TheVariants.{First, Path, Last}
use Rattle.wi_cert.specs.declared.check_refused.CheckRefused.{CheckRefused}
use Rattle.wi_cert.specs.declared.check_refused.CheckRefused.TheVariants.{OfAnotherQuestion, TermsDiffer, StepNotInTable, NoMatch, WeightDiffers, WrongAnswer, Unbounded, BadSplit, Leaf, Memory}
use Rattle.wi_cert.specs.declared.check_refused.ClosedRefused.{ClosedRefused}
use Rattle.wi_cert.specs.declared.check_refused.ClosedRefused.TheVariants.{HeadMissing, PairMissing, GoalBelow, NotClosed}
use Rattle.wi_cert.specs.Shown.{is_no}
use Rattle.wi_accept.specs.declared.follower.Follower.{Follower}
use Rattle.wi_accept.specs.declared.follower.Follower.TheVariants.{Head, Pair}
use Rattle.wi_accept.specs.Answers.{padded, run_of}
use Rattle.wi_accept.specs.Followers.{first_missing}
use Rattle.wi_accept.specs.Demands.{row, first_open, weight_to}

-- the part is the first of a run that isn't as it is asked
abbrev pub IsFirstUnmatched : Net → Question → Run → RunPart → Type 0
IsFirstUnmatched net question run First = question.first (map (λ l. l.0.0) run.header) → ⊥
IsFirstUnmatched net question run Path = question.first (map (λ l. l.0.0) run.header) × (question.path (map (λ e. e.0) (links_of net run)) → ⊥)
IsFirstUnmatched net question run Last =
    question.first (map (λ l. l.0.0) run.header) × question.path (map (λ e. e.0) (links_of net run))
    × (question.last (map (λ l. l.0.0) (last_header net (run.first, run.header) run.steps)) → ⊥)

-- a claim isn't the one for a run of this verdict
abbrev pub is_wrong : Claim → Verdict → Bool
is_wrong claims.No v = false
is_wrong claims.Yes (Fits fails) = false
is_wrong claims.Yes (Exceeds n) = true
is_wrong claims.Yes (UsesFailed e) = true
is_wrong claims.Inconclusive (Fits fails) = true
is_wrong claims.Inconclusive (Exceeds n) = false
is_wrong claims.Inconclusive (UsesFailed e) = false

-- rows, their weights written with so many terms
abbrev pub rows_of : ℕ → List Row → List Summary
rows_of terms rows = map (λ r. row r.p r.g r.q (padded terms r.weight)) rows

-- what bounds every run: the weight that is shown, if there is one
abbrev pub bound_of : Shown → Option (List ℕ)
bound_of s = if is_no s.claim then None else Some (padded s.terms s.weight)

-- what heads and pairs lack, what the goal's row weighs, and which row is lacking
abbrev pub missing_in : Problem → Closed → Option Follower
missing_in problem c = first_missing (rules problem) (0, 0) c.heads c.pairs

abbrev pub goal_in : ℕ → Closed → Option (List ℕ)
goal_in terms c = weight_to (rows_of terms c.rows) 0 0 1

abbrev pub open_in : Problem → ℕ → Option (List ℕ) → Closed → Option Summary
open_in problem terms bound c = first_open scale components (rules problem) c.heads (rows_of terms c.rows) bound

-- a run is shown: of a no, none is
abbrev pub ShowsRun : Shown → Type 0
ShowsRun s = is_no s.claim ≡ false

-- a cause for which what is shown isn't believed
abbrev pub IsShownCause : Problem → Shown → CheckRefused → Type 0
IsShownCause problem s OfAnotherQuestion = is_some s.dropped ≢ (asks problem).drops
IsShownCause problem s (TermsDiffer shown asked) = (shown ≡ s.terms) × (asked ≡ length problem.vector) × (shown ≢ asked)
IsShownCause problem s (StepNotInTable n) = ShowsRun s × (why : Cause) × (moving_fault problem.net problem.bounds (run_of problem.net s) ≡ Some (n, why))
IsShownCause problem s (NoMatch part) = ShowsRun s × IsFirstUnmatched problem.net (asks problem) (run_of problem.net s) part
IsShownCause problem s (WeightDiffers shown counted) =
    ShowsRun s × (components shown ≡ padded s.terms s.weight) × (components counted ≡ weighs problem (run_of problem.net s))
    × (components shown ≢ components counted)
IsShownCause problem s WrongAnswer = is_wrong s.claim (verdict_of problem.net problem.bounds (run_of problem.net s)) ≡ true
IsShownCause problem s (Unbounded r) = ⊥
IsShownCause problem s (BadSplit n) = ⊥
IsShownCause problem s (Leaf n r) = ⊥
IsShownCause problem s Memory = ⊥

-- a cause for which heads, pairs and rows, whose weights have so many terms, don't bound every run below a bound
abbrev pub IsClosedCause : Problem → ℕ → Option (List ℕ) → Closed → ClosedRefused → Type 0
IsClosedCause problem terms bound c (HeadMissing p g) = missing_in problem c ≡ Some (Head p g)
IsClosedCause problem terms bound c (PairMissing u v) = missing_in problem c ≡ Some (Pair u v)
IsClosedCause problem terms bound c (GoalBelow w) = goal_in terms c ≡ Some (components w)
IsClosedCause problem terms bound c (NotClosed head target sum) = open_in problem terms bound c ≡ Some (row head.0 head.1 target (components sum))

-- a cause for which a certificate isn't believed
abbrev pub IsCause : Problem → Certificate → CheckRefused → Type 0
IsCause problem c (Unbounded r) = IsClosedCause problem c.shown.terms (bound_of c.shown) c.closed r
IsCause problem c r = IsShownCause problem c.shown r

-- the order in which causes are told
abbrev pub closed_place : ClosedRefused → ℕ
closed_place (HeadMissing p g) = 0
closed_place (PairMissing u v) = 0
closed_place (GoalBelow w) = 1
closed_place (NotClosed head target sum) = 2

abbrev pub place : CheckRefused → ℕ
place OfAnotherQuestion = 0
place (TermsDiffer shown asked) = 1
place (StepNotInTable n) = 2
place (NoMatch part) = 3
place (WeightDiffers shown counted) = 4
place WrongAnswer = 5
place (Unbounded r) = 6 + closed_place r
place (BadSplit n) = 6 + 3 * n
place (Leaf n r) = 6 + 3 * n + closed_place r
place Memory = 6

-- of several causes the first is told
pub record IsFirstCause (IsOne : CheckRefused → Type 0) (r : CheckRefused) : Type 0 where
  pub cause : IsOne r
  pub first : (s : CheckRefused) → place s < place r → IsOne s → ⊥

-- what is answered where something speaks against it; want of memory may be, too
abbrev pub IsToldFirst : (CheckRefused → Type 0) → CheckRefused → Type 0
IsToldFirst IsOne Memory = Unit {0}
IsToldFirst IsOne r = IsFirstCause IsOne r

-- nothing speaks against it
abbrev pub HasNone : (CheckRefused → Type 0) → Type 0
HasNone IsOne = (r : CheckRefused) → IsOne r → ⊥

-- a certificate is refused for the first cause, or there is none, and it is accepted
abbrev pub IsRefusal : Problem → Certificate → CheckRefused → Type 0
IsRefusal problem c r = IsFirstCause (IsCause problem c) r

abbrev pub IsRefused : Problem → Certificate → CheckRefused → Type 0
IsRefused problem c r = IsToldFirst (IsCause problem c) r

abbrev pub IsAccepted : Problem → Certificate → Type 0
IsAccepted problem c = HasNone (IsCause problem c)
