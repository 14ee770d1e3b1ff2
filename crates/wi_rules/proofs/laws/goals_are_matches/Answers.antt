use Rattle.wi_rules.proofs.Pops.{match_pops, pops_match, tells_match}
use Rattle.wi_rules.proofs.laws.goals_are_matches.Goals as goal

pub returns : goal.returns
returns g c = record {
  forwards = λ s o rules w run k m. match_pops s k.encoding g.W.Domain.scale g.W.Domain.components o rules k.rules_are k.arity w run m;
  backwards = λ s o rules w k h. pops_match s k.encoding g.W.Domain.scale g.W.Domain.components o rules k.rules_are k.arity w h;
  origins = λ s o rules rs k h. tells_match s k.encoding g.W.Domain.scale g.W.Domain.components o rules k.rules_are k.arity rs h;
}
