-- A run that is shown, where nothing speaks against it, moves and matches, and weighs what is said.
use Rattle.std.proofs.Common.{◌≡◌, ◌≢◌, ℕ, Bool, true, false, List, length, Option, Some, None, is_some, refl, ap, sym, ◌∙◌}
use Rattle.wi_weight.specs.Weights.{AtMost}
use Rattle.wi_weight.specs.lemmas.Order.{at_most_both, tied}
use Rattle.wi_world.specs.declared.answer.Verdict.{Verdict}
use Rattle.wi_world.specs.declared.answer.Verdict.TheVariants.{Fits, Exceeds, UsesFailed}
use Rattle.wi_world.specs.declared.run.Run.{Run}
use Rattle.wi_world.specs.Moving.{IsMovingRun}
use Rattle.wi_world.specs.Runs.{verdict_of}
use Rattle.wi_world.specs.Holds.{Matches, is_dropped}
use Rattle.wi_world.specs.private.Holds.{word_for}
use Rattle.wi_world.proofs.MovingLaws.{possible_moving}
use Rattle.wi_trace.specs.declared.cause.Cause.{Cause}
use Rattle.wi_trace.specs.Replays.{moving_fault}
use Rattle.wi_trace.proofs.FaultLemmas.{moving_fault_none}
use Rattle.wi_build.specs.Problems.{Problem, IsProblem, asks, weighs}
use Rattle.wi_build.specs.Systems.{scale, weight}
use Rattle.wi_build.proofs.LawLemmas.{weight_tells}
use Rattle.wi_cert.specs.declared.shown.Claim.{Claim}
use Rattle.wi_cert.specs.declared.shown.Claim.TheVariants as claims
use Rattle.wi_cert.specs.declared.shown.Dropped.{Dropped}
use Rattle.wi_cert.specs.declared.shown.Dropped.TheVariants.{Nowhere, Inactive, Undefined}
use Rattle.wi_cert.specs.declared.shown.Shown.{Shown}
use Rattle.wi_cert.specs.declared.check_refused.CheckRefused.{CheckRefused}
use Rattle.wi_cert.specs.declared.check_refused.CheckRefused.TheVariants.{OfAnotherQuestion, StepNotInTable, NoMatch, WeightDiffers, WrongAnswer}
use Rattle.wi_cert.specs.Shown.{is_no, MayBeDropped, IsShown}
use Rattle.wi_accept.specs.Answers.{word_of, padded, end_of, run_of}
use Rattle.wi_accept.specs.Causes.{is_wrong, IsShownCause}
use Rattle.wi_accept.proofs.WeightLemmas.{scale_laws, six_components, shown_six}
use Rattle.wi_accept.proofs.MatchLemmas.{none_unmatched}

-- a claim that isn't wrong has the word for its verdict
right_word : (claim : Claim) (v : Verdict) → is_no claim ≡ false → (is_wrong claim v ≡ true → ⊥) → word_of claim ≡ word_for v
right_word claims.No v run right = cc
right_word claims.Yes (Fits fails) run right = refl
right_word claims.Yes (Exceeds n) run right = absurd (right refl)
right_word claims.Yes (UsesFailed e) run right = absurd (right refl)
right_word claims.Inconclusive (Fits fails) run right = absurd (right refl)
right_word claims.Inconclusive (Exceeds n) run right = refl
right_word claims.Inconclusive (UsesFailed e) run right = refl

-- where a run is shown, its packet is dropped in a text of version 2 alone
dropped_shown : (claim : Claim) (dropped : Option Dropped) → is_no claim ≡ false → MayBeDropped claim dropped → is_dropped (end_of dropped) ≡ is_some dropped
dropped_shown claim None run may = refl
dropped_shown claim (Some Nowhere) run may = cc
dropped_shown claim (Some Inactive) run may = refl
dropped_shown claim (Some (Undefined j m)) run may = refl

-- truth values that aren't different are the same
not_apart : (a b : Bool) → (a ≢ b → ⊥) → a ≡ b
not_apart true true h = refl
not_apart true false h = absurd (h (λ e. cc))
not_apart false true h = absurd (h (λ e. cc))
not_apart false false h = refl

-- weights that aren't different are the same
not_different : (a b : List ℕ) → length a ≡ 6 → length b ≡ 6 → ((a ≡ b → ⊥) → ⊥) → a ≡ b
not_different a b a_six b_six h = at_most_both scale_laws a b a_six b_six (most a b a_six h) (most b a b_six (λ n. h (λ e. n (sym e))))
  where
    most : (a b : List ℕ) → length a ≡ 6 → ((a ≡ b → ⊥) → ⊥) → AtMost scale a b
    most a b six h greater = h (λ e. let alone = tied scale_laws a six in let same = ap (λ (x : List ℕ). scale.order a x) e in cc)

module _ (problem : Problem) (s : Shown) (k : IsProblem problem) (shown : IsShown s) (none : (r : CheckRefused) → IsShownCause problem s r → ⊥) (claim : is_no s.claim ≡ false) where
  abbrev shown_run : Run
  shown_run = run_of problem.net s

  abbrev shown_weight : List ℕ
  shown_weight = padded s.terms s.weight

  none_at_fault : moving_fault problem.net problem.bounds shown_run ≡ None
  none_at_fault = go (moving_fault problem.net problem.bounds shown_run) refl
    where
      go : (o : Option (ℕ × Cause)) → moving_fault problem.net problem.bounds shown_run ≡ o → moving_fault problem.net problem.bounds shown_run ≡ None
      go None e = e
      go (Some f) e = absurd (none (StepNotInTable f.0) (claim, f.1, e))

  pub moving : IsMovingRun problem.net problem.bounds shown_run
  moving = possible_moving problem.net problem.bounds shown_run k.network k.bounds_of (moving_fault_none problem.net problem.bounds shown_run none_at_fault)

  pub matches : Matches problem.net (asks problem) shown_run
  matches =
      let asked : is_some s.dropped ≡ (asks problem).drops = not_apart (is_some s.dropped) (asks problem).drops (λ n. none OfAnotherQuestion n) in
      none_unmatched problem k shown_run (λ part n. none (NoMatch part) (claim, n)) (dropped_shown s.claim s.dropped claim shown.dropped ∙ asked)

  pub weight_is : weighs problem shown_run ≡ shown_weight
  weight_is =
      let six = shown_six s shown claim in
      let counted_six = six_components problem.net problem.vector shown_run in
      let shown = weight_tells shown_weight six in
      let counted = weight_tells (weighs problem shown_run) counted_six in
      not_different (weighs problem shown_run) shown_weight counted_six six
      (λ n. none (WeightDiffers (weight shown_weight) (weight (weighs problem shown_run))) (claim, shown, counted, λ e. n (sym counted ∙ sym e ∙ shown)))

  pub word_is : word_for (verdict_of problem.net problem.bounds shown_run) ≡ word_of s.claim
  word_is = sym (right_word s.claim (verdict_of problem.net problem.bounds shown_run) claim (λ wrong. none WrongAnswer wrong))
