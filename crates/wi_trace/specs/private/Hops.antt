-- The parts of a step and of an end: the member that it names, and what stands against that member's link.
use Rattle.std.specs.Prelude.{◌≡◌, ℕ, Bool, false, ◌||◌, ◌==◌, if◌then◌else◌, List, [], ◌∷◌, length, slice_get, Option, Some, None, Result, Ok, Err}
use Rattle.std.specs.List.{find}
use Rattle.std.specs.Option.{option_map, option_map_or}
use Rattle.wi_labels.specs.Header.{outcome}
use Rattle.wi_labels.specs.declared.header.Applied.{Applied}
use Rattle.wi_labels.specs.declared.header.Applied.TheVariants.{Done, Undefined}
use Rattle.wi_net.specs.declared.parts.LinkId.{LinkId}
use Rattle.wi_net.specs.declared.parts.Member.{Member}
use Rattle.wi_net.specs.declared.bounds.Bounds.{Bounds}
use Rattle.wi_net.specs.LinkSet.{has}
use Rattle.wi_net.specs.Net.{Net, first_active, before}
use Rattle.wi_net.specs.RiskGroups.{union}
use Rattle.wi_world.specs.declared.run.Step.{Step}
use Rattle.wi_world.specs.declared.run.End.{End}
use Rattle.wi_world.specs.Moves.{Location, groups_at, moved, needed, needed_to_end}
use Rattle.wi_world.specs.Runs.{used_along}
use Rattle.wi_trace.specs.declared.cause.Cause.{Cause}
use Rattle.wi_trace.specs.declared.cause.Cause.TheVariants.{NoGroup, NoMember, NotFirstActive, LinkFailed, LinkBefore, Active}
use Rattle.wi_trace.specs.declared.hop.World.{World}
use Rattle.wi_trace.specs.declared.hop.World.TheVariants.{Fixed, Moving}
use Rattle.wi_trace.specs.Replays.{needs_cause, hop_cause, moving_cause, end_cause, moving_end_cause}

-- the member of a number
abbrev pub named_in : Option (List Member) → ℕ → Result Member Cause
named_in None m = Err NoGroup
named_in (Some group) m = elim (slice_get group m) [ None ↦ Err NoMember | Some member ↦ Ok member ]

-- the member that a step names among groups, or why there is none
abbrev pub named : List (List Member) → Step → Result Member Cause
named groups step = named_in (slice_get groups step.group) step.member

-- one group is the first that has a link outside the set
abbrev pub is_first : List LinkId → List (List Member) → ℕ → Bool
is_first fails groups j = option_map_or (λ i. i == j) (first_active fails groups) false

-- what stands against a link of a group under one set of failed links
abbrev pub fixed_against : List LinkId → List (List Member) → ℕ → LinkId → Option Cause
fixed_against fails groups j e = if is_first fails groups j then (if has fails e then Some LinkFailed else None) else Some NotFirstActive

-- what stands against a link, where others must have failed: that they can't be down, or that the link is then
abbrev pub moving_against : Net → Bounds → List LinkId → LinkId → Option Cause
moving_against net bounds needs e =
    elim (needs_cause net bounds needs) [
      | Some why ↦ Some why
      | None ↦ if has needs e || has bounds.down e then Some LinkBefore else None
    ]

-- what stands against a link of a group, in a world
abbrev pub against : World → Net → List (List Member) → ℕ → LinkId → Option Cause
against (Fixed fails) net groups j e = fixed_against fails.now groups j e
against (Moving bounds) net groups j e = moving_against net bounds.now (before net groups j) e

-- a member, or what stands against it
abbrev pub unless : Option Cause → Member → Result Member Cause
unless None member = Ok member
unless (Some why) member = Err why

abbrev pub taken_among : World → Net → List (List Member) → Step → Result Member Cause → Result Member Cause
taken_among world net groups step (Ok member) = unless (against world net groups step.group member.link) member
taken_among world net groups step (Err why) = Err why

-- the member that a step names, if it is taken in a world, its operations apart; else the first cause
abbrev pub taken_in : World → Net → Location → Step → Result Member Cause
taken_in world net at step = taken_among world net (groups_at net at.0 at.1) step (named (groups_at net at.0 at.1) step)

-- why a step isn't taken, in a world
abbrev pub cause_in : World → Net → Location → Step → Option Cause
cause_in (Fixed fails) net at step = hop_cause net fails.now at step
cause_in (Moving bounds) net at step = moving_cause net bounds.now at step

-- why the links of groups aren't all failed, in a world
abbrev pub inactive_in : World → Net → List (List Member) → Option Cause
inactive_in (Fixed fails) net groups = option_map Active (first_active fails.now groups)
inactive_in (Moving bounds) net groups = needs_cause net bounds.now (before net groups (length groups))

-- why an end can't be, in a world
abbrev pub end_cause_in : World → Net → End → Location → Option Cause
end_cause_in (Fixed fails) net end at = end_cause net fails.now end at
end_cause_in (Moving bounds) net end at = moving_end_cause net bounds.now end at

-- a packet goes by a member, or one of its operations isn't defined
abbrev pub Goes : Member → Location → Applied → Location → Type 0
Goes member old Done new = (outcome 0 member.ops old.1 ≡ Ok new.1) × (new.0 ≡ member.link)
Goes member old (Undefined i) new = outcome 0 member.ops old.1 ≡ Err i

-- a set with what each step needs, as far as the steps lead, and what the end does
abbrev pub gathered : Net → List LinkId → End → Location → List Step → List LinkId
gathered net s end at [] = union s (needed_to_end net at end)
gathered net s end at (step ∷ steps) =
    option_map_or (λ next. gathered net (union s (needed net at step)) end next steps) (moved net at step) (union s (needed net at step))

-- the first link that a packet uses that is in a set
abbrev pub used_in : Net → List LinkId → End → Location → List Step → Option LinkId
used_in net s end at steps = find (λ e. has s e) (used_along net end at steps)
