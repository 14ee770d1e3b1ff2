-- A walk, step by step.
use Rattle.std.proofs.Common.{◌≡◌, ℕ, ◌+◌, true, false, List, [], ◌∷◌, Option, Some, None, refl}
use Rattle.std.specs.List.{find}
use Rattle.wi_net.specs.declared.parts.LinkId.{LinkId}
use Rattle.wi_net.specs.LinkSet.{has}
use Rattle.wi_net.specs.RiskGroups.{union}
use Rattle.wi_net.specs.Net.{Net}
use Rattle.wi_world.specs.declared.run.Step.{Step}
use Rattle.wi_world.specs.declared.run.End.{End}
use Rattle.wi_world.specs.Moves.{Location, moved, needed}
use Rattle.wi_world.specs.Runs.{locations, used_to_end}
use Rattle.wi_trace.specs.declared.cause.Cause.{Cause}
use Rattle.wi_trace.specs.Replays.{first_fault}
use Rattle.wi_trace.specs.private.Hops.{gathered, used_in}

pub fault_next : (net : Net) (cause : Location → Step → Option Cause) (last : Location → Option Cause) (n : ℕ) (at : Location) (step : Step) (steps : List Step) (next : Location) → cause at step ≡ None → moved net at step ≡ Some next → first_fault net cause last n at (step ∷ steps) ≡ first_fault net cause last (n + 1) next steps
fault_next net cause last n at step steps next h m = rw (h, first_fault) (rw m refl)

pub fault_here : (net : Net) (cause : Location → Step → Option Cause) (last : Location → Option Cause) (n : ℕ) (at : Location) (step : Step) (steps : List Step) (why : Cause) → cause at step ≡ Some why → first_fault net cause last n at (step ∷ steps) ≡ Some (n, why)
fault_here net cause last n at step steps why h = rw (h, first_fault) refl

pub locations_next : (net : Net) (at : Location) (step : Step) (steps : List Step) (next : Location) → moved net at step ≡ Some next → locations net at (step ∷ steps) ≡ at ∷ locations net next steps
locations_next net at step steps next m = rw m refl

pub locations_last : (net : Net) (at : Location) (step : Step) (steps : List Step) → moved net at step ≡ None → locations net at (step ∷ steps) ≡ at ∷ []
locations_last net at step steps m = rw m refl

pub ruleset walk_laws = (fault_next, fault_here, locations_next, locations_last)

pub gathered_on : (net : Net) (s : List LinkId) (end : End) (at : Location) (step : Step) (steps : List Step) (next : Location) → moved net at step ≡ Some next → gathered net s end at (step ∷ steps) ≡ gathered net (union s (needed net at step)) end next steps
gathered_on net s end at step steps next m = rw m refl

pub gathered_off : (net : Net) (s : List LinkId) (end : End) (at : Location) (step : Step) (steps : List Step) → moved net at step ≡ None → gathered net s end at (step ∷ steps) ≡ union s (needed net at step)
gathered_off net s end at step steps m = rw m refl

pub ruleset gather_laws = (gathered_on, gathered_off)

pub used_here : (net : Net) (s : List LinkId) (end : End) (at : Location) (steps : List Step) → has s at.0 ≡ true → used_in net s end at steps ≡ Some at.0
used_here net s end at [] h = rw h refl
used_here net s end at (step ∷ steps) h = rw h refl

pub used_on : (net : Net) (s : List LinkId) (end : End) (at : Location) (step : Step) (steps : List Step) (next : Location) → has s at.0 ≡ false → moved net at step ≡ Some next → used_in net s end at (step ∷ steps) ≡ used_in net s end next steps
used_on net s end at step steps next h m = rw h (rw m refl)

pub used_off : (net : Net) (s : List LinkId) (end : End) (at : Location) (step : Step) (steps : List Step) → has s at.0 ≡ false → moved net at step ≡ None → used_in net s end at (step ∷ steps) ≡ None
used_off net s end at step steps h m = rw h (rw m refl)

pub used_last : (net : Net) (s : List LinkId) (end : End) (at : Location) → has s at.0 ≡ false → used_in net s end at [] ≡ find (λ e. has s e) (used_to_end net at end)
used_last net s end at h = rw h refl

pub ruleset used_laws = (used_here, used_on, used_off, used_last)
