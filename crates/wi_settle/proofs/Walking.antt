-- The links that a packet uses, step by step.
use Rattle.std.proofs.Common.{◌≡◌, List, [], ◌∷◌, Some, None, refl}
use Rattle.wi_net.specs.Net.{Net}
use Rattle.wi_world.specs.declared.run.Step.{Step}
use Rattle.wi_world.specs.declared.run.End.{End}
use Rattle.wi_world.specs.Moves.{Location, moved}
use Rattle.wi_world.specs.Runs.{used_along}

pub used_next : (net : Net) (end : End) (at : Location) (step : Step) (steps : List Step) (next : Location) → moved net at step ≡ Some next → used_along net end at (step ∷ steps) ≡ at.0 ∷ used_along net end next steps
used_next net end at step steps next m = rw m refl

pub used_last : (net : Net) (end : End) (at : Location) (step : Step) (steps : List Step) → moved net at step ≡ None → used_along net end at (step ∷ steps) ≡ at.0 ∷ []
used_last net end at step steps m = rw m refl

pub ruleset used_laws = (used_next, used_last)
