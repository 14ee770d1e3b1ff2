-- Where dropped packets are asked for, nothing is found just where each packet on the way goes on.
use Rattle.std.proofs.Common.{◌≡◌, true, ◌↔◌}
use Rattle.wi_world.specs.Holds.{NoTrace, NoneMoving}
use Rattle.wi_world.specs.Survival.{Survives, SurvivesMoving}
use Rattle.wi_world.proofs.SurvivalLaws.{AsksForDrops, no_trace_survives, survives_no_trace, none_moving_survives, survives_none_moving}
use Rattle.wi_rules.proofs.Lost.{any_accepted}
use Rattle.wi_build.specs.Encodings.{encoding_of}
use Rattle.wi_build.specs.Problems.{Problem, IsProblem, asks}
use Rattle.wi_build.proofs.Automata.{accepts_matches}
use Rattle.wi_build.proofs.Sound.{sound}

-- a packet may be dropped with any header of the network's labels
asks_for_drops : (problem : Problem) → IsProblem problem → problem.query.drops ≡ true → AsksForDrops problem.net (asks problem)
asks_for_drops problem k drops = record {
  drops = drops;
  any = λ header known. (accepts_matches problem.query.last k.automata.last _).1 (any_accepted (encoding_of problem) (sound problem k) drops header known);
}

pub traces : (problem : Problem) → IsProblem problem → problem.query.drops ≡ true → NoTrace problem.net (asks problem) ↔ Survives problem.net (asks problem)
traces problem k drops =
    let d : AsksForDrops problem.net (asks problem) = asks_for_drops problem k drops in
    (no_trace_survives problem.net (asks problem) k.network d, survives_no_trace problem.net (asks problem) k.network d)

pub moving : (problem : Problem) → IsProblem problem → problem.query.drops ≡ true → NoneMoving problem.net (asks problem) ↔ SurvivesMoving problem.net (asks problem)
moving problem k drops =
    let d : AsksForDrops problem.net (asks problem) = asks_for_drops problem k drops in
    (none_moving_survives problem.net (asks problem) k.network d k.bounds_of, survives_none_moving problem.net (asks problem) k.network d)
