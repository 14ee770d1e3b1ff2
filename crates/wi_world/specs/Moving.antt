-- The moving world: links fail and are repaired while a packet travels.
use Rattle.std.specs.Prelude.{◌≡◌, true, not, ◌&&◌, nat_lt, if◌then◌else◌, List, [], ◌∷◌, Option, Some, None}
use Rattle.std.specs.Option.{option_map, option_and_then}
use Rattle.wi_net.specs.declared.bounds.Bounds.{Bounds}
use Rattle.wi_net.specs.LinkSet.{has, outside}
use Rattle.wi_net.specs.Net.{Net, is_link, risk_count, with_risk, without_risk}
use Rattle.wi_world.specs.declared.run.Step.{Step}
use Rattle.wi_world.specs.declared.run.Run.{Run}
use Rattle.wi_world.specs.declared.world.State.{State}
use Rattle.wi_world.specs.declared.world.Event.{Event}
use Rattle.wi_world.specs.declared.world.Event.TheVariants.{Fail, Repair, Hop}
use Rattle.wi_world.specs.Moves.{moved, is_usable, is_start, may_end}

-- what an event leaves, or nothing where it isn't allowed
abbrev pub after_event : Net → Bounds → State → Event → Option State
after_event net bounds now (Fail e) =
    if is_link net e && not (has now.fails e) && not (has bounds.up e) && nat_lt (risk_count net (outside now.fails bounds.down)) bounds.k
    then Some (record now { fails = with_risk net now.fails e })
    else None
after_event net bounds now (Repair e) =
    if has now.fails e && not (has bounds.down e)
    then Some (record now { fails = without_risk net now.fails e })
    else None
after_event net bounds now (Hop step) =
    if is_usable net now.fails (now.link, now.header) step
    then option_map (λ next. record { link = next.0; header = next.1; fails = now.fails }) (moved net (now.link, now.header) step)
    else None

-- what a course of events leaves, where each is allowed in its turn
abbrev pub after_events : Net → Bounds → State → List Event → Option State
after_events net bounds now [] = Some now
after_events net bounds now (event ∷ events) = option_and_then (λ next. after_events net bounds next events) (after_event net bounds now event)

-- the hops among the events
abbrev pub hops : List Event → List Step
hops [] = []
hops (Fail e ∷ events) = hops events
hops (Repair e ∷ events) = hops events
hops (Hop step ∷ events) = step ∷ hops events

-- where the world starts: what is known to be down is failed, and nothing else
abbrev pub start_of : Bounds → Run → State
start_of bounds run = record { link = run.first; header = run.header; fails = bounds.down }

-- a run of the moving world: its steps are the hops of some course of allowed events, and it may end so as things are then
pub record IsMovingRun (net : Net) (bounds : Bounds) (run : Run) : Type 0 where
  pub start : is_start net bounds.down run.first run.header ≡ true
  pub events : List Event
  pub last : State
  pub allowed : after_events net bounds (start_of bounds run) events ≡ Some last
  pub steps : hops events ≡ run.steps
  pub ends : may_end net last.fails (last.link, last.header) run.end ≡ true
