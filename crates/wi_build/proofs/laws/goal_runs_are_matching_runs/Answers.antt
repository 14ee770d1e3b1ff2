use Rattle.wi_rules.proofs.Pops.{match_pops, pops_match, tells_match}
use Rattle.wi_build.specs.Encodings.{encoding_of}
use Rattle.wi_build.proofs.Sound.{to_match, of_match}
use Rattle.wi_build.proofs.laws.goal_runs_are_matching_runs.Goals as goal

pub returns : goal.returns
returns g c = record {
  forwards = λ problem o rules w run k s a. match_pops (encoding_of problem) s.encoding g.W.Domain.scale g.W.Domain.components o rules s.rules_are s.arity w run (to_match problem k w run a);
  backwards = λ problem o rules w k s h.
      (let m = pops_match (encoding_of problem) s.encoding g.W.Domain.scale g.W.Domain.components o rules s.rules_are s.arity w h in
      (m.0, of_match problem k w m.0 m.1));
  origins = λ problem o rules rs k s h.
      (let m = tells_match (encoding_of problem) s.encoding g.W.Domain.scale g.W.Domain.components o rules s.rules_are s.arity rs h in
      (m.0, of_match problem k _ m.0 m.1, m.2));
}
