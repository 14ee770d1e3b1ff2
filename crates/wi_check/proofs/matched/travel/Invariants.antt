use Rattle.std.proofs.Common.{◌≡◌, ◌++◌, drop, map}
use Rattle.wi_nfa.specs.Sets.{symbols}
use Rattle.wi_net.specs.declared.parts.LinkId.{LinkId}
use Rattle.wi_world.specs.Moves.{Location}
use Rattle.wi_world.specs.Runs.{locations, last_header}
use Rattle.wi_check.proofs.matched.travel.Given as goal

abbrev pub invariant-loop-step : goal.invariant-loop-step
invariant-loop-step l = record {
  links : symbols l.links.items ++ map (λ (e : LinkId). e.0) (map (λ (place : Location). place.0) (locations l.net l.at (drop l.step-index l.steps))) ≡ map (λ (e : LinkId). e.0) (map (λ (place : Location). place.0) (locations l.net l.initial.at l.steps));
  header : last_header l.net l.at (drop l.step-index l.steps) ≡ last_header l.net l.initial.at l.steps;
}
