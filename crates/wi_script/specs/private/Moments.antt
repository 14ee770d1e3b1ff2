-- A moment of a script, as a state of the moving world, and what an event makes of it.
use Rattle.std.specs.Prelude.{◌≡◌, ◌&&◌, ℕ, Bool, true, Option, Some, None}
use Rattle.wi_net.specs.LinkSet.{is_rising}
use Rattle.wi_net.specs.Net.{Net}
use Rattle.wi_world.specs.declared.world.State.{State}
use Rattle.wi_world.specs.declared.world.Event.{Event}
use Rattle.wi_world.specs.Moving.{after_event}
use Rattle.wi_script.specs.declared.script.ScriptCause.{ScriptCause}
use Rattle.wi_script.specs.declared.plays.Moment.{Moment}
use Rattle.wi_script.specs.Plays.{only, event_cause, is_state_of}

abbrev pub seen : Moment → State
seen now = record { link = now.at.0; header = now.at.1; fails = now.fails }

-- a moment of the network: a state of it, whose failed links rise
abbrev pub is_moment_of : Net → State → Bool
is_moment_of net now = is_state_of net now && is_rising now.fails

-- an event happened, or it isn't allowed for a cause
abbrev pub TakesPlace : Net → ℕ → State → Event → State → Option ScriptCause → Type 0
TakesPlace net k old event new None = (event_cause net k old event ≡ None) × (after_event net (only k) old event ≡ Some new) × (is_moment_of net new ≡ true)
TakesPlace net k old event new (Some cause) = (event_cause net k old event ≡ Some cause) × (after_event net (only k) old event ≡ None)
