-- The goal runs of a problem's rules are the runs that answer it.
use Rattle.std.proofs.Common.{◌≡◌, ℕ, List, refl}
use Rattle.wi_weight.specs.declared.kinds.Pair.{Pair}
use Rattle.wi_weight.specs.declared.kinds.Terms.{Terms}
use Rattle.wi_weight.specs.declared.kinds.Effort.{Effort}
use Rattle.wi_world.specs.declared.run.Run.{Run}
use Rattle.wi_quantity.specs.Weighing.{components}
use Rattle.wi_pds.specs.declared.rule.Rule.{Rule}
use Rattle.wi_pds.specs.Runs.{Pops, PopRun, run_weight}
use Rattle.wi_rules.specs.declared.spot.Origin.{Origin}
use Rattle.wi_rules.specs.Goals.{origins_for}
use Rattle.wi_rules.specs.Numbers.{origins_by}
use Rattle.wi_rules.proofs.Pops.{match_pops, pops_match, tells_match}
use Rattle.wi_build.specs.Problems.{IsAnswering, Problem, IsProblem}
use Rattle.wi_build.specs.Tags.{origin_of}
use Rattle.wi_build.specs.Encodings.{encoding_of}
use Rattle.wi_build.specs.Systems.{rules_by, scale}
use Rattle.wi_build.proofs.Sound.{sound, to_match, of_match}
use Rattle.wi_build.proofs.LawLemmas.{systems}

-- what a rule stands for
abbrev origin : Rule (Pair Terms Effort) → Origin
origin rule = origin_of rule.tag

module _ (problem : Problem) (k : IsProblem problem) where
  -- a run that answers is that of a goal run
  pub answers_pop : (w : List ℕ) (run : Run) → IsAnswering problem w run → Pops scale components (rules_by (encoding_of problem)) 0 0 1 w
  answers_pop w run a =
      match_pops (encoding_of problem) (sound problem k) scale components origin (rules_by (encoding_of problem)) (systems problem k) refl w run
      (to_match problem k w run a)

  -- a goal run is that of a run that answers
  pub pops_answer : (w : List ℕ) → Pops scale components (rules_by (encoding_of problem)) 0 0 1 w → (run : Run) × IsAnswering problem w run
  pops_answer w h =
      let m = pops_match (encoding_of problem) (sound problem k) scale components origin (rules_by (encoding_of problem)) (systems problem k) refl w h in
      (m.0, of_match problem k w m.0 m.1)

  -- which its rules tell
  pub rules_tell : (rs : List (Rule (Pair Terms Effort))) → PopRun (rules_by (encoding_of problem)) 0 0 1 rs
      → (run : Run) × IsAnswering problem (run_weight scale components rs) run × (origins_by (λ (rule : Rule (Pair Terms Effort)). origin_of rule.tag) rs ≡ origins_for run)
  rules_tell rs h =
      let m = tells_match (encoding_of problem) (sound problem k) scale components origin (rules_by (encoding_of problem)) (systems problem k) refl rs h in
      (m.0, of_match problem k (run_weight scale components rs) m.0 m.1, m.2)
