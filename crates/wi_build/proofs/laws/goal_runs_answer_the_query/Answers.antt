use Rattle.std.proofs.Common.{refl}
use Rattle.wi_weight.specs.Kinds.{pair_scale, terms_scale, effort_scale}
use Rattle.wi_quantity.specs.Weighing.{components}
use Rattle.wi_rules.proofs.Pops.{match_pops, pops_match, tells_match}
use Rattle.wi_build.proofs.Sound.{sound, to_match, of_match}
use Rattle.wi_build.specs.Tags.{origin_of}
use Rattle.wi_build.specs.Encodings.{encoding_of}
use Rattle.wi_build.specs.Systems.{rules_by}
use Rattle.wi_build.proofs.LawLemmas.{systems}
use Rattle.wi_build.proofs.laws.goal_runs_answer_the_query.Goals as goal

pub returns : goal.returns
returns c = record {
  forwards = λ problem w run k a. match_pops (encoding_of problem) (sound problem k) (pair_scale terms_scale effort_scale) components (λ rule. origin_of rule.tag) (rules_by (encoding_of problem)) (systems problem k) refl w run
      (to_match problem k w run a);
  backwards = λ problem w k h.
      (let m = pops_match (encoding_of problem) (sound problem k) (pair_scale terms_scale effort_scale) components (λ rule. origin_of rule.tag) (rules_by (encoding_of problem)) (systems problem k) refl w h in
      (m.0, of_match problem k w m.0 m.1));
  origins = λ problem rules k h.
      (let m = tells_match (encoding_of problem) (sound problem k) (pair_scale terms_scale effort_scale) components (λ rule. origin_of rule.tag) (rules_by (encoding_of problem)) (systems problem k) refl rules h in
      (m.0, of_match problem k _ m.0 m.1, m.2));
}
