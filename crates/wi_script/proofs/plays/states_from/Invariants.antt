use Rattle.std.proofs.Common.{◌≡◌, ◌+◌, ◌++◌, drop, true}
use Rattle.std.specs.List.{list_all}
use Rattle.std.specs.Option.{option_map}
use Rattle.wi_script.specs.Plays.{states_of, first_refused, is_state_of}
use Rattle.wi_script.specs.private.Moments.{seen, is_moment_of}
use Rattle.wi_script.proofs.plays.states_from.Given as goal

abbrev pub invariant-loop-i : goal.invariant-loop-i
invariant-loop-i l = record {
  now : is_moment_of l.net (seen l.now) ≡ true;
  before : list_all (is_state_of l.net) l.states.items ≡ true;
  states : option_map (λ later. l.states.items ++ later) (states_of l.net l.k (seen l.now) (drop l.i l.events)) ≡ states_of l.net l.k (seen l.initial.now) l.events;
  refused : first_refused l.net l.k (l.i + 2) (seen l.now) (drop l.i l.events) ≡ first_refused l.net l.k 2 (seen l.initial.now) l.events;
}
