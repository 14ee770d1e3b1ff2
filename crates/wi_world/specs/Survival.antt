-- Survival: what it means that no packet is dropped on a way.
use Rattle.std.specs.Prelude.{◌≡◌, true, List, [], ◌∷◌, map, is_some, Option, Some}
use Rattle.std.specs.Option.{option_and_then}
use Rattle.wi_net.specs.declared.parts.LinkId.{LinkId}
use Rattle.wi_net.specs.Net.{Net, first_active}
use Rattle.wi_world.specs.declared.run.Step.{Step}
use Rattle.wi_world.specs.declared.run.Run.{Run}
use Rattle.wi_world.specs.Moves.{Location, groups_at, moved, is_usable, is_trace, IsAllowed}
use Rattle.wi_world.specs.Moving.{IsMovingRun}
use Rattle.wi_world.specs.Runs.{links_of}
use Rattle.wi_world.specs.Holds.{Question}

-- while just these links are failed a packet goes on: a group is active, and each member that a hop may take leads on
pub record GoesOn (net : Net) (fails : List LinkId) (at : Location) : Type 0 where
  pub active : is_some (first_active fails (groups_at net at.0 at.1)) ≡ true
  pub leads : (step : Step) → is_usable net fails at step ≡ true → is_some (moved net at step) ≡ true

-- where steps lead
abbrev pub place_after : Net → Location → List Step → Option Location
place_after net at [] = Some at
place_after net at (step ∷ steps) = option_and_then (λ next. place_after net next steps) (moved net at step)

-- a run is on the way that is asked: its first header and its links are as they are asked
pub record IsOnWay (net : Net) (question : Question) (run : Run) : Type 0 where
  pub first : question.first (map (λ l. l.0.0) run.header)
  pub path : question.path (map (λ e. e.0) (links_of net run))

-- under no failures that the bounds allow a packet is dropped on the way
abbrev pub Survives : Net → Question → Type 0
Survives net question =
    (fails : List LinkId) (run : Run) (at : Location) → IsAllowed net question.bounds fails → is_trace net fails run ≡ true → IsOnWay net question run
    → place_after net (run.first, run.header) run.steps ≡ Some at → GoesOn net fails at

-- at no moment is one, while links fail and are repaired
abbrev pub SurvivesMoving : Net → Question → Type 0
SurvivesMoving net question =
    (run : Run) (moving : IsMovingRun net question.bounds run) → IsOnWay net question run → GoesOn net moving.last.fails (moving.last.link, moving.last.header)
