-- Branches: parts of what may fail within bounds. A branch is bounds itself: more links are down, more are up, fewer may fail.
use Rattle.std.specs.Prelude.{◌≡◌, ◌+◌, ◌-◌, ◌<◌, Bool, true, false, not, ◌&&◌, ◌||◌, nat_le, if◌then◌else◌, List, [], ◌∷◌, Option, Some, None}
use Rattle.std.specs.List.{find, list_all}
use Rattle.std.specs.Option.{option_and_then}
use Rattle.wi_net.specs.declared.parts.LinkId.{LinkId}
use Rattle.wi_net.specs.declared.bounds.Bounds.{Bounds}
use Rattle.wi_net.specs.LinkSet.{has, is_within, is_apart, outside}
use Rattle.wi_net.specs.Net.{Net, is_link, links_where, risk_count, with_risk}
use Rattle.wi_world.specs.declared.run.Run.{Run}
use Rattle.wi_world.specs.declared.world.State.{State}
use Rattle.wi_world.specs.declared.world.Event.{Event}
use Rattle.wi_world.specs.Moves.{may_end, is_start, IsAllowed, AreBounds}
use Rattle.wi_world.specs.Moving.{after_event, hops, start_of}
use Rattle.wi_world.specs.Runs.{used_by, needs}

-- a branch of bounds: it has their two lists, and as many risk groups may still fail as its down leaves
pub record IsBranch (net : Net) (whole branch : Bounds) : Type 0 where
  pub bounds : AreBounds net branch
  pub down : is_within whole.down branch.down ≡ true
  pub up : is_within whole.up branch.up ≡ true
  pub left : branch.k + risk_count net (outside branch.down whole.down) ≡ whole.k

-- a set of failed links keeps to a branch: it has all that is down, and nothing that is up
abbrev pub keeps_to : Bounds → List LinkId → Bool
keeps_to branch fails = is_within branch.down fails && is_apart fails branch.up

-- the sets of a branch: those within the whole bounds that keep to it
pub record IsBranchSet (net : Net) (whole branch : Bounds) (fails : List LinkId) : Type 0 where
  pub allowed : IsAllowed net whole fails
  pub keeps : keeps_to branch fails ≡ true

-- what an event within the whole bounds leaves, where the failed set keeps to the branch
abbrev pub after_event_in : Net → Bounds → Bounds → State → Event → Option State
after_event_in net whole branch now event =
    option_and_then (λ next. if keeps_to branch next.fails then Some next else None) (after_event net whole now event)

-- what a course of such events leaves
abbrev pub after_events_in : Net → Bounds → Bounds → State → List Event → Option State
after_events_in net whole branch now [] = Some now
after_events_in net whole branch now (event ∷ events) =
    option_and_then (λ next. after_events_in net whole branch next events) (after_event_in net whole branch now event)

-- a moving run of a branch: what fails within the whole bounds begins as what is down in the branch, and keeps to it; and the run
-- may end so as things are then
pub record IsBranchRun (net : Net) (whole branch : Bounds) (run : Run) : Type 0 where
  pub start : is_start net branch.down run.first run.header ≡ true
  pub events : List Event
  pub last : State
  pub allowed : after_events_in net whole branch (start_of branch run) events ≡ Some last
  pub steps : hops events ≡ run.steps
  pub ends : may_end net last.fails (last.link, last.header) run.end ≡ true

-- what a run needs within the whole bounds, and what is down in the branch
abbrev pub branch_needs : Net → Bounds → Bounds → Run → List LinkId
branch_needs net whole branch run = links_where net (λ e. has (needs net whole run) e || has branch.down e)

-- a run fits a branch: these may all fail at once, and spare the links that the run uses
abbrev pub fits_branch : Net → Bounds → Bounds → Run → Bool
fits_branch net whole branch run =
    nat_le (risk_count net (outside (branch_needs net whole branch run) whole.down)) whole.k
    && list_all (λ e. not (has (branch_needs net whole branch run) e)) (used_by net run)

-- a link's risk group may be split: it is neither down nor up, and one more may fail
pub record CanSplit (net : Net) (branch : Bounds) (e : LinkId) : Type 0 where
  pub known : is_link net e ≡ true
  pub down : has branch.down e ≡ false
  pub up : has branch.up e ≡ false
  pub room : 0 < branch.k

-- the two children of a branch: a link's risk group is down in one, and up in the other
abbrev pub with_down : Net → Bounds → LinkId → Bounds
with_down net branch e = record { k = branch.k - 1; down = with_risk net branch.down e; up = branch.up }

abbrev pub with_up : Net → Bounds → LinkId → Bounds
with_up net branch e = record branch { up = with_risk net branch.up e }

-- the links that a branch has neither down nor up
abbrev pub free_links : Net → Bounds → List LinkId
free_links net branch = links_where net (λ e. not (has branch.down e) && not (has branch.up e))

-- the link to split by, where a run doesn't fit: the least that it needs and that is neither down nor up
abbrev pub split_of : Net → Bounds → Run → Option LinkId
split_of net branch run = find (λ e. not (has branch.down e) && not (has branch.up e)) (needs net branch run)
