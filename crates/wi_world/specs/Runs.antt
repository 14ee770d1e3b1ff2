-- What is said of a whole run: its places, its needs, its verdict, and the quantities that it is weighed by (AalWiNes,
-- CoNEXT 2020).
use Rattle.std.specs.Prelude.{ℕ, ◌+◌, ◌-◌, max, Bool, false, ◌&&◌, ◌||◌, ◌==◌, nat_lt, if◌then◌else◌, List, [], ◌∷◌, length, map, slice_get, Option, Some, None}
use Rattle.std.specs.List.{find}
use Rattle.std.specs.Option.{option_map_or}
use Rattle.wi_labels.specs.declared.ops.Op.{Op}
use Rattle.wi_labels.specs.Header.{Entry, after_op}
use Rattle.wi_net.specs.declared.parts.LinkId.{LinkId}
use Rattle.wi_net.specs.declared.bounds.Bounds.{Bounds}
use Rattle.wi_net.specs.LinkSet.{has, outside}
use Rattle.wi_net.specs.Net.{Net, links_where, risk_count}
use Rattle.wi_world.specs.declared.run.Step.{Step}
use Rattle.wi_world.specs.declared.run.Run.{Run}
use Rattle.wi_world.specs.declared.run.End.{End}
use Rattle.wi_world.specs.declared.run.End.TheVariants.{Undefined}
use Rattle.wi_world.specs.declared.answer.Verdict.{Verdict}
use Rattle.wi_world.specs.declared.answer.Verdict.TheVariants.{Fits, Exceeds, UsesFailed}
use Rattle.wi_world.specs.declared.run.Quantity.{Quantity}
use Rattle.wi_world.specs.declared.run.Quantity.TheVariants.{Links, Hops, Distance, Failures, Tunnels}
use Rattle.wi_world.specs.Moves.{Location, member_at, moved, needed, needed_to_end}

-- the places of a packet, as far as the steps lead
abbrev pub locations : Net → Location → List Step → List Location
locations net at [] = at ∷ []
locations net at (step ∷ steps) = at ∷ option_map_or (λ next. locations net next steps) (moved net at step) []

-- the places of a run
abbrev pub trace_of : Net → Run → List Location
trace_of net run = locations net (run.first, run.header) run.steps

-- the links of a run
abbrev pub links_of : Net → Run → List LinkId
links_of net run = map (λ at. at.0) (trace_of net run)

-- the header after the last step, or none where a step leads nowhere
abbrev pub last_header : Net → Location → List Step → List Entry
last_header net at [] = at.1
last_header net at (step ∷ steps) = option_map_or (λ next. last_header net next steps) (moved net at step) []

-- the link of an end's member
abbrev pub used_to_end : Net → Location → End → List LinkId
used_to_end net at (Undefined step) = option_map_or (λ member. member.link ∷ []) (member_at net at step) []
used_to_end net at end = []

-- the links that a packet uses, as far as the steps lead: those that it is on, and then that of its end's member, if there is one
abbrev pub used_along : Net → End → Location → List Step → List LinkId
used_along net end at [] = at.0 ∷ used_to_end net at end
used_along net end at (step ∷ steps) = at.0 ∷ option_map_or (λ next. used_along net end next steps) (moved net at step) []

-- the links that a run uses
abbrev pub used_by : Net → Run → List LinkId
used_by net run = used_along net run.end (run.first, run.header) run.steps

-- a sum over the steps, each with the places before and after it, and what the place adds where they have led
abbrev pub sum_over : Net → (Location → Step → Location → ℕ) → (Location → ℕ) → Location → List Step → ℕ
sum_over net f last at [] = last at
sum_over net f last at (step ∷ steps) = option_map_or (λ next. f at step next + sum_over net f last next steps) (moved net at step) 0

-- a link is needed by one of the steps, or by the end
abbrev pub is_needed : Net → LinkId → End → Location → List Step → Bool
is_needed net e end at [] = has (needed_to_end net at end) e
is_needed net e end at (step ∷ steps) = has (needed net at step) e || option_map_or (λ next. is_needed net e end next steps) (moved net at step) false

-- what must have failed by the end of a run, and what is down anyway
abbrev pub needs : Net → Bounds → Run → List LinkId
needs net bounds run = links_where net (λ e. has bounds.down e || is_needed net e run.end (run.first, run.header) run.steps)

-- a verdict, by k, by how many risk groups are needed besides down, by the needs, and by the first link among them that is used
abbrev pub judged : ℕ → ℕ → List LinkId → Option LinkId → Verdict
judged k n needs None = if nat_lt k n then Exceeds n else Fits needs
judged k n needs (Some e) = if nat_lt k n then Exceeds n else UsesFailed e

-- whether a run's needs may fail, and spare the links that it uses
abbrev pub verdict_of : Net → Bounds → Run → Verdict
verdict_of net bounds run =
    judged bounds.k (risk_count net (outside (needs net bounds run) bounds.down)) (needs net bounds run)
    (find (λ e. has (needs net bounds run) e) (used_by net run))

-- what a link adds to a quantity
abbrev pub link_share : Quantity → Net → LinkId → ℕ
link_share Links net e = 1
link_share Hops net e = option_map_or (λ l. if l.from.0 == l.to.0 then 0 else 1) (slice_get net.links e.0) 0
link_share Distance net e = option_map_or (λ l. l.distance) (slice_get net.links e.0) 0
link_share Failures net e = 0
link_share Tunnels net e = 0

-- what a step adds besides its link
abbrev pub hop_share : Quantity → Net → Location → Step → Location → ℕ
hop_share Failures net at step next = risk_count net (needed net at step)
hop_share Tunnels net at step next = length next.1 - length at.1
hop_share _ net at step next = 0

-- what an end adds: it needs failures, and nothing else
abbrev pub end_share : Quantity → Net → End → Location → ℕ
end_share Failures net end at = risk_count net (needed_to_end net at end)
end_share _ net end at = 0

-- a quantity of a run: its first link's share, for each step the shares of its link and of its hop, and its end's
abbrev pub quantity_of : Quantity → Net → Run → ℕ
quantity_of q net run =
    link_share q net run.first
    + sum_over net (λ at step next. link_share q net next.0 + hop_share q net at step next) (end_share q net run.end) (run.first, run.header) run.steps

-- how many operations a step does, or one where it does none
abbrev pub work : Net → Location → Step → Location → ℕ
work net at step next = option_map_or (λ member. max 1 (length member.ops)) (member_at net at step) 0

-- how many operations are defined, one after the other, and how many labels then stand
abbrev pub work_before : List Op → List Entry → ℕ
work_before [] header = length header
work_before (op ∷ ops) header = option_map_or (λ next. 1 + work_before ops next) (after_op op header) (length header)

-- what is left to do at the end: a label that stands then is one, and so is an operation before the one that isn't defined
abbrev pub end_work : Net → End → Location → ℕ
end_work net (Undefined step) at = option_map_or (λ member. work_before member.ops at.1) (member_at net at step) 0
end_work net end at = length at.1

-- how many pushdown rules make the run: one for each label of its first header, the work of its steps and of its end, and four
abbrev pub effort_of : Net → Run → ℕ
effort_of net run = length run.header + sum_over net (work net) (end_work net run.end) (run.first, run.header) run.steps + 4

-- a list of numbers is less than another, by the first place where they differ
abbrev pub is_less : List ℕ → List ℕ → Bool
is_less [] ys = false
is_less (x ∷ xs) [] = false
is_less (x ∷ xs) (y ∷ ys) = nat_lt x y || (x == y && is_less xs ys)
