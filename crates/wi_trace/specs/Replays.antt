-- Why a run isn't a trace under a set of failed links, or no run of the moving world: its first step that isn't allowed, or its end,
-- and the first cause.
use Rattle.std.specs.Prelude.{◌≡◌, ℕ, ◌+◌, Bool, false, ◌||◌, ◌==◌, nat_lt, if◌then◌else◌, List, [], ◌∷◌, slice_get, Option, Some, None, Ok, Err}
use Rattle.std.specs.List.{find}
use Rattle.std.specs.Option.{option_map, option_map_or}
use Rattle.wi_labels.specs.Header.{Entry, outcome}
use Rattle.wi_net.specs.declared.parts.LinkId.{LinkId}
use Rattle.wi_net.specs.declared.parts.Member.{Member}
use Rattle.wi_net.specs.declared.bounds.Bounds.{Bounds}
use Rattle.wi_net.specs.LinkSet.{has, outside}
use Rattle.wi_net.specs.Net.{Net, risk_count, first_active}
use Rattle.wi_world.specs.declared.run.Step.{Step}
use Rattle.wi_world.specs.declared.run.Run.{Run}
use Rattle.wi_world.specs.declared.run.End.{End}
use Rattle.wi_world.specs.declared.run.End.TheVariants.{Arrives, Inactive, Undefined as Dropped}
use Rattle.wi_world.specs.Moves.{Location, groups_at, moved, needed, needed_to_end, is_start, is_trace}
use Rattle.wi_world.specs.Moving.{IsMovingRun}
use Rattle.wi_trace.specs.declared.cause.Cause.{Cause}
use Rattle.wi_trace.specs.declared.cause.Cause.TheVariants.{BadStart, NoGroup, NoMember, NotFirstActive, LinkFailed, TooManyBefore, NeedsUp, LinkBefore, Undefined, Active, Defined}
use Rattle.wi_trace.specs.declared.cause.ReplayRefused.{ReplayRefused}
use Rattle.wi_trace.specs.declared.cause.ReplayRefused.TheVariants.{Fault, Memory}

-- the first operation of a member that isn't defined
abbrev pub undefined_cause : List Entry → Member → Option Cause
undefined_cause header member = elim (outcome 0 member.ops header) [ Ok next ↦ None | Err i ↦ Some (Undefined i) ]

-- all operations of a member are defined
abbrev pub defined_cause : List Entry → Member → Option Cause
defined_cause header member = elim (outcome 0 member.ops header) [ Ok next ↦ Some Defined | Err i ↦ None ]

-- why a step's member doesn't lead on, or to an end: it isn't there, or is judged so
abbrev pub member_cause : (Member → Option Cause) → Net → Location → Step → Option Cause
member_cause judge net at step =
    elim (slice_get (groups_at net at.0 at.1) step.group) [
      | None ↦ Some NoGroup
      | Some group ↦ elim (slice_get group step.member) [ None ↦ Some NoMember | Some member ↦ judge member ]
    ]

-- the group is the first that has a link outside the set
abbrev pub is_first_active : Net → List LinkId → Location → ℕ → Bool
is_first_active net fails at j = option_map_or (λ i. i == j) (first_active fails (groups_at net at.0 at.1)) false

-- why a step's member isn't taken under a set of failed links, and where it is, what is said of its operations
abbrev pub taken_cause : (List Entry → Member → Option Cause) → Net → List LinkId → Location → Step → Option Cause
taken_cause operations net fails at step =
    member_cause (λ member.
    if is_first_active net fails at step.group then (if has fails member.link then Some LinkFailed else operations at.1 member)
    else Some NotFirstActive) net at step

-- why links can't all be down at a moment: they are too many, or one is known up
abbrev pub needs_cause : Net → Bounds → List LinkId → Option Cause
needs_cause net bounds needs =
    if nat_lt bounds.k (risk_count net (outside needs bounds.down)) then Some (TooManyBefore (risk_count net (outside needs bounds.down)))
    else option_map NeedsUp (find (λ e. has bounds.up e) needs)

-- why a step's member is taken at no moment: for what it needs, or since its own link is down then; and where it is, what is said of its
-- operations
abbrev pub taken_moving_cause : (List Entry → Member → Option Cause) → Net → Bounds → Location → Step → Option Cause
taken_moving_cause operations net bounds at step =
    member_cause (λ member.
    elim (needs_cause net bounds (needed net at step)) [
      | Some why ↦ Some why
      | None ↦ if has (needed net at step) member.link || has bounds.down member.link then Some LinkBefore else operations at.1 member
    ]) net at step

-- why a step isn't a hop under a set of failed links, or at any moment
abbrev pub hop_cause : Net → List LinkId → Location → Step → Option Cause
hop_cause = taken_cause undefined_cause

abbrev pub moving_cause : Net → Bounds → Location → Step → Option Cause
moving_cause = taken_moving_cause undefined_cause

-- why an end can't be under a set of failed links, or at any moment
abbrev pub end_cause : Net → List LinkId → End → Location → Option Cause
end_cause net fails Arrives at = None
end_cause net fails Inactive at = option_map Active (first_active fails (groups_at net at.0 at.1))
end_cause net fails (Dropped step) at = taken_cause defined_cause net fails at step

abbrev pub moving_end_cause : Net → Bounds → End → Location → Option Cause
moving_end_cause net bounds Arrives at = None
moving_end_cause net bounds Inactive at = needs_cause net bounds (needed_to_end net at Inactive)
moving_end_cause net bounds (Dropped step) at = taken_moving_cause defined_cause net bounds at step

-- the first of the steps, counted from a number, that has a cause, or the end behind them
abbrev pub first_fault : Net → (Location → Step → Option Cause) → (Location → Option Cause) → ℕ → Location → List Step → Option (ℕ × Cause)
first_fault net cause last n at [] = option_map (λ why. (n, why)) (last at)
first_fault net cause last n at (step ∷ steps) =
    elim (cause at step) [
      | Some why ↦ Some (n, why)
      | None ↦ option_map_or (λ next. first_fault net cause last (n + 1) next steps) (moved net at step) None
    ]

-- the start is step 0, and the steps count from 1; the end is the step after the last
abbrev pub run_fault : Net → List LinkId → (Location → Step → Option Cause) → (Location → Option Cause) → Run → Option (ℕ × Cause)
run_fault net down cause last run =
    if is_start net down run.first run.header then first_fault net cause last 1 (run.first, run.header) run.steps else Some (0, BadStart)

-- the first fault of a run as a trace under a set, and as a run of the moving world
abbrev pub trace_fault : Net → List LinkId → Run → Option (ℕ × Cause)
trace_fault net fails run = run_fault net fails (hop_cause net fails) (end_cause net fails run.end) run

abbrev pub moving_fault : Net → Bounds → Run → Option (ℕ × Cause)
moving_fault net bounds run = run_fault net bounds.down (moving_cause net bounds) (moving_end_cause net bounds run.end) run

-- what is answered for a run that isn't a trace under a set, and for one that the moving world hasn't
abbrev pub IsNoTrace : Net → List LinkId → Run → ReplayRefused → Type 0
IsNoTrace net fails run (Fault step cause) = (is_trace net fails run ≡ false) × (trace_fault net fails run ≡ Some (step, cause))
IsNoTrace net fails run Memory = Unit {0}

abbrev pub IsNoMovingRun : Net → Bounds → Run → ReplayRefused → Type 0
IsNoMovingRun net bounds run (Fault step cause) = (IsMovingRun net bounds run → ⊥) × (moving_fault net bounds run ≡ Some (step, cause))
IsNoMovingRun net bounds run Memory = Unit {0}
