-- What a no says where dropped packets are asked for.
use Rattle.std.specs.Prelude.{◌≡◌, true}
use Rattle.wi_world.specs.Survival.{Survives, SurvivesMoving}
use Rattle.wi_build.specs.Problems.{Problem, asks}

-- each packet on the way goes on, under failures that stay
abbrev pub IsSurvived : Problem → Type 0
IsSurvived problem = problem.query.drops ≡ true → Survives problem.net (asks problem)

-- and at each moment of the moving world
abbrev pub IsSurvivedMoving : Problem → Type 0
IsSurvivedMoving problem = problem.query.drops ≡ true → SurvivesMoving problem.net (asks problem)
