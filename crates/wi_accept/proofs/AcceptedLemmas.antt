-- The answer of a certificate that nothing speaks against holds.
use Rattle.std.proofs.Common.{◌≡◌, ℕ, Bool, true, false, List, Some, refl, sym, ◌∙◌, subst}
use Rattle.std.specs.declared.cmp.Ordering.TheVariants.{Less}
use Rattle.wi_weight.specs.lemmas.Order.{not_below}
use Rattle.wi_world.specs.declared.answer.Word.{Word}
use Rattle.wi_world.specs.declared.answer.Verdict.{Verdict}
use Rattle.wi_world.specs.declared.run.Run.{Run}
use Rattle.wi_world.specs.Moving.{IsMovingRun}
use Rattle.wi_world.specs.Runs.{verdict_of}
use Rattle.wi_world.specs.Holds.{Matches, NoneMovingLess, IsNo, Holds}
use Rattle.wi_world.specs.private.Holds.{word_for}
use Rattle.wi_world.proofs.HoldsLaws.{no_from_moving, answer_by_verdict}
use Rattle.wi_quantity.specs.Weighing.{components}
use Rattle.wi_pds.specs.Closed.{Within}
use Rattle.wi_build.specs.Problems.{Problem, IsProblem, asks, weighs}
use Rattle.wi_build.specs.Systems.{scale, weight}
use Rattle.wi_build.proofs.LawLemmas.{weight_tells}
use Rattle.wi_cert.specs.declared.certificate.Certificate.{Certificate}
use Rattle.wi_cert.specs.declared.check_refused.CheckRefused.{CheckRefused}
use Rattle.wi_cert.specs.declared.check_refused.CheckRefused.TheVariants.{OfAnotherQuestion, TermsDiffer, StepNotInTable, NoMatch, WeightDiffers, WrongAnswer, Unbounded, BadSplit, Leaf, Memory}
use Rattle.wi_cert.specs.Shown.{is_no}
use Rattle.wi_cert.specs.Text.{IsWritable}
use Rattle.wi_accept.specs.Answers.{IsDecided, word_of, padded, run_of, answer_of}
use Rattle.wi_accept.specs.Causes.{bound_of, IsAccepted, IsCause, IsShownCause}
use Rattle.wi_accept.proofs.OrderLemmas.{not_less}
use Rattle.wi_accept.proofs.WeightLemmas.{scale_laws, six_components, shown_six, bound_weight, row_weights}
use Rattle.wi_accept.proofs.Bounding.{none_within}
use Rattle.wi_accept.proofs.Showing.{moving, matches, weight_is, word_is}

-- what speaks against what is shown speaks against the certificate
shown_cause : (problem : Problem) (c : Certificate) (r : CheckRefused) → IsShownCause problem c.shown r → IsCause problem c r
shown_cause problem c OfAnotherQuestion h = h
shown_cause problem c (TermsDiffer shown asked) h = h
shown_cause problem c (StepNotInTable n) h = h
shown_cause problem c (NoMatch part) h = h
shown_cause problem c (WeightDiffers shown counted) h = h
shown_cause problem c WrongAnswer h = h
shown_cause problem c (Unbounded r) h = absurd h
shown_cause problem c (BadSplit n) h = h
shown_cause problem c (Leaf n r) h = h
shown_cause problem c Memory h = h

module _ (problem : Problem) (c : Certificate) (k : IsProblem problem) (writable : IsWritable c) (accepted : IsAccepted problem c) where
  abbrev shown_run : Run
  shown_run = run_of problem.net c.shown

  abbrev shown_weight : List ℕ
  shown_weight = padded c.shown.terms c.shown.weight

  abbrev shown_verdict : Verdict
  shown_verdict = verdict_of problem.net problem.bounds shown_run

  none_shown : (r : CheckRefused) → IsShownCause problem c.shown r → ⊥
  none_shown r h = accepted r (shown_cause problem c r h)

  -- no run that matches is within the bound
  none : (run : Run) → IsMovingRun problem.net problem.bounds run → Matches problem.net (asks problem) run → Within scale (bound_of c.shown) (weighs problem run) → ⊥
  none = none_within problem c.shown.terms (bound_of c.shown) c.closed (row_weights c.shown c.closed writable.shown writable.closed) (bound_weight c.shown writable.shown) (λ r h. accepted (Unbounded r) h) k

  -- a no holds
  is_none : is_no c.shown.claim ≡ true → IsNo problem.net (asks problem)
  is_none claim = no_from_moving problem.net (asks problem) k.network k.bounds_of (λ run moving matches. none run moving matches (rw claim tt))

  module _ (claim : is_no c.shown.claim ≡ false) where
    weighed : weighs problem shown_run ≡ shown_weight
    weighed = weight_is problem c.shown k writable.shown none_shown claim

    -- no run that matches weighs less than the one that is shown
    least : NoneMovingLess problem.net (asks problem) (weighs problem) (weighs problem shown_run)
    least other moving matches =
        let six = six_components problem.net problem.vector shown_run in
        let other_six = six_components problem.net problem.vector other in
        not_less (weighs problem shown_run) (weighs problem other) (six ∙ sym other_six)
        (not_below scale_laws (weighs problem shown_run) (weighs problem other) six other_six
        (λ below. none other moving matches (rw claim (subst (λ (w : List ℕ). scale.order (weighs problem other) w ≡ Less) weighed below))))

    -- and so its answer holds
    run_holds : Holds problem.net (asks problem) (weighs problem) (word_of c.shown.claim) (Some (components (weight shown_weight))) (Some shown_run) (Some shown_verdict)
    run_holds =
        let P : Word → List ℕ → Type 0 = λ word w. Holds problem.net (asks problem) (weighs problem) word (Some w) (Some shown_run) (Some shown_verdict) in
        let told : weighs problem shown_run ≡ components (weight shown_weight) = weighed ∙ sym (weight_tells shown_weight (shown_six c.shown writable.shown claim)) in
        subst (λ (word : Word). P word (components (weight shown_weight))) (word_is problem c.shown k writable.shown none_shown claim)
        (subst (λ (w : List ℕ). P (word_for shown_verdict) w) told
        (answer_by_verdict problem.net (asks problem) k.network k.bounds_of (weighs problem) shown_run shown_verdict
        (moving problem c.shown k writable.shown none_shown claim) (matches problem c.shown k writable.shown none_shown claim) refl least))

  -- the answer of an accepted certificate holds
  pub answer_holds : IsDecided problem (answer_of problem c.shown)
  answer_holds = go (is_no c.shown.claim) refl
    where
      go : (b : Bool) → is_no c.shown.claim ≡ b → IsDecided problem (answer_of problem c.shown)
      go true e = rw e (is_none e)
      go false e = rw e (run_holds e)
