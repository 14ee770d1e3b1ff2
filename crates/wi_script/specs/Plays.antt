-- The states of the moving world while a script is played, or its first event that isn't allowed.
use Rattle.std.specs.Prelude.{◌≡◌, ◌&&◌, ℕ, ◌+◌, Bool, nat_lt, if◌then◌else◌, List, [], ◌∷◌, Option, Some, None}
use Rattle.std.specs.List.{list_all}
use Rattle.std.specs.Option.{option_map, option_map_or, option_and_then}
use Rattle.wi_net.specs.declared.bounds.Bounds.{Bounds}
use Rattle.wi_net.specs.LinkSet.{has}
use Rattle.wi_net.specs.Net.{Net, is_link, labels_known, risk_count}
use Rattle.wi_world.specs.declared.world.State.{State}
use Rattle.wi_world.specs.declared.world.Event.{Event}
use Rattle.wi_world.specs.declared.world.Event.TheVariants.{Fail, Repair, Hop}
use Rattle.wi_world.specs.Moving.{after_event}
use Rattle.wi_script.specs.declared.script.Script.{Script}
use Rattle.wi_script.specs.declared.script.ScriptCause.{ScriptCause}
use Rattle.wi_script.specs.declared.script.ScriptCause.TheVariants as script
use Rattle.wi_script.specs.declared.script.ScriptRefused.{ScriptRefused}
use Rattle.wi_script.specs.declared.script.ScriptRefused.TheVariants.{BadLine, Memory}
use Rattle.wi_trace.specs.declared.cause.Cause.{Cause}
use Rattle.wi_trace.specs.declared.cause.Cause.TheVariants.{NoGroup, NoMember, NotFirstActive, LinkFailed, Undefined}
use Rattle.wi_trace.specs.Replays.{hop_cause}

-- nothing is known to be down or up, and k risk groups may fail
abbrev pub only : ℕ → Bounds
only k = record { k = k; down = []; up = [] }

-- where a script starts
abbrev pub begin : Script → State
begin script = record { link = script.first; header = script.header; fails = [] }

-- the states of a course of events, if each is allowed in its turn
abbrev pub states_of : Net → ℕ → State → List Event → Option (List State)
states_of net k now [] = Some (now ∷ [])
states_of net k now (event ∷ events) = option_map (λ later. now ∷ later) (option_and_then (λ next. states_of net k next events) (after_event net (only k) now event))

-- what a script says of a hop that isn't allowed. The other causes aren't those of a hop under one set of failed links
abbrev pub hop_words : Cause → ScriptCause
hop_words NoGroup = script.NoSuchGroup
hop_words NoMember = script.NoSuchMember
hop_words NotFirstActive = script.NotFirstActive
hop_words LinkFailed = script.LinkFailed
hop_words (Undefined i) = script.Undefined i
hop_words other = script.NotAnEvent

-- why an event isn't allowed
abbrev pub event_cause : Net → ℕ → State → Event → Option ScriptCause
event_cause net k now (Fail e) = if has now.fails e then Some script.AlreadyFailed else if nat_lt (risk_count net now.fails) k then None else Some script.TooManyFailed
event_cause net k now (Repair e) = if has now.fails e then None else Some script.NotFailed
event_cause net k now (Hop step) = option_map hop_words (hop_cause net now.fails (now.link, now.header) step)

-- the first of the events, counted from a number, that isn't allowed
abbrev pub first_refused : Net → ℕ → ℕ → State → List Event → Option (ℕ × ScriptCause)
first_refused net k n now [] = None
first_refused net k n now (event ∷ events) =
    elim (event_cause net k now event) [
      | Some why ↦ Some (n, why)
      | None ↦ option_map_or (λ next. first_refused net k (n + 1) next events) (after_event net (only k) now event) None
    ]

-- what is answered for a script that can't be played: the events stand from line 2 on
abbrev pub IsNotPlayedFrom : Net → ℕ → State → List Event → ScriptRefused → Type 0
IsNotPlayedFrom net k now events (BadLine n cause) = (states_of net k now events ≡ None) × (first_refused net k 2 now events ≡ Some (n, cause))
IsNotPlayedFrom net k now events Memory = Unit {0}

abbrev pub IsNotPlayed : Net → ℕ → Script → ScriptRefused → Type 0
IsNotPlayed net k script refused = IsNotPlayedFrom net k (begin script) script.events refused

-- a state of the network: its link, its labels with their classes, and the failed links are there
abbrev pub is_state_of : Net → State → Bool
is_state_of net now = is_link net now.link && (labels_known net now.header && list_all (is_link net) now.fails)
