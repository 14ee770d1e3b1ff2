-- Nothing speaks against what is shown rightly.
use Rattle.std.proofs.Common.{◌≡◌, Bool, true, false, length, is_some, refl, sym, ◌∙◌}
use Rattle.wi_world.specs.declared.answer.Verdict.{Verdict}
use Rattle.wi_world.specs.Moving.{IsMovingRun}
use Rattle.wi_world.specs.Runs.{verdict_of}
use Rattle.wi_world.specs.Holds.{Matches}
use Rattle.wi_world.proofs.MovingLaws.{moving_possible}
use Rattle.wi_trace.proofs.FaultLemmas.{fault_not_possible}
use Rattle.wi_build.specs.Problems.{Problem, IsProblem, asks, weighs}
use Rattle.wi_cert.specs.declared.shown.Claim.{Claim}
use Rattle.wi_cert.specs.declared.shown.Claim.TheVariants as claims
use Rattle.wi_cert.specs.declared.shown.Shown.{Shown}
use Rattle.wi_cert.specs.declared.check_refused.RunPart.TheVariants.{First, Path, Last}
use Rattle.wi_cert.specs.declared.check_refused.CheckRefused.{CheckRefused}
use Rattle.wi_cert.specs.declared.check_refused.CheckRefused.TheVariants.{OfAnotherQuestion, TermsDiffer, StepNotInTable, NoMatch, WeightDiffers, WrongAnswer, Unbounded, BadSplit, Leaf, Memory}
use Rattle.wi_cert.specs.Shown.{is_no}
use Rattle.wi_accept.specs.Answers.{padded, run_of}
use Rattle.wi_accept.specs.Causes.{is_wrong, IsShownCause}

-- a run that is shown moves and matches, weighs what is said, and its verdict is that of the claim
pub record IsRightlyShown (problem : Problem) (s : Shown) : Type 0 where
  pub moving : IsMovingRun problem.net problem.bounds (run_of problem.net s)
  pub matches : Matches problem.net (asks problem) (run_of problem.net s)
  pub weight : weighs problem (run_of problem.net s) ≡ padded s.terms s.weight
  pub right : is_wrong s.claim (verdict_of problem.net problem.bounds (run_of problem.net s)) ≡ false

no_is_right : (claim : Claim) (v : Verdict) → is_no claim ≡ true → is_wrong claim v ≡ false
no_is_right claims.No v h = refl
no_is_right claims.Yes v h = cc
no_is_right claims.Inconclusive v h = cc

module _ (problem : Problem) (s : Shown) (k : IsProblem problem) (about : is_some s.dropped ≡ (asks problem).drops) (terms : s.terms ≡ length problem.vector)
    (rightly : is_no s.claim ≡ false → IsRightlyShown problem s) where
  right : is_wrong s.claim (verdict_of problem.net problem.bounds (run_of problem.net s)) ≡ false
  right = go (is_no s.claim) refl
    where
      go : (b : Bool) → is_no s.claim ≡ b → is_wrong s.claim (verdict_of problem.net problem.bounds (run_of problem.net s)) ≡ false
      go true e = no_is_right s.claim (verdict_of problem.net problem.bounds (run_of problem.net s)) e
      go false e = (rightly e).right

  pub nothing_against_shown : (r : CheckRefused) → IsShownCause problem s r → ⊥
  nothing_against_shown OfAnotherQuestion h = h about
  nothing_against_shown (TermsDiffer shown asked) h = h.2 (h.0 ∙ terms ∙ sym h.1)
  nothing_against_shown (StepNotInTable n) h =
      fault_not_possible problem.net problem.bounds (run_of problem.net s) n h.1 h.2
      (moving_possible problem.net problem.bounds (run_of problem.net s) k.network k.bounds_of (rightly h.0).moving)
  nothing_against_shown (NoMatch First) h = h.1 (rightly h.0).matches.first
  nothing_against_shown (NoMatch Path) h = h.1.1 (rightly h.0).matches.path
  nothing_against_shown (NoMatch Last) h = h.1.2 (rightly h.0).matches.last
  nothing_against_shown (WeightDiffers shown counted) h = h.3 (h.1 ∙ sym (rightly h.0).weight ∙ sym h.2)
  nothing_against_shown WrongAnswer h = let is = right in cc
  nothing_against_shown (Unbounded r) h = h
  nothing_against_shown (BadSplit n) h = h
  nothing_against_shown (Leaf n r) h = h
  nothing_against_shown Memory h = h
