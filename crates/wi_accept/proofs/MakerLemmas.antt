-- Nothing speaks against a maker's certificate.
use Rattle.std.proofs.Common.{◌≡◌, ℕ, Bool, true, false, List, Some, refl, ap, sym, ◌∙◌, subst}
use Rattle.std.specs.declared.cmp.Ordering.TheVariants.{Less}
use Rattle.wi_world.specs.declared.answer.Verdict.{Verdict}
use Rattle.wi_world.specs.declared.answer.Verdict.TheVariants.{Fits, Exceeds, UsesFailed}
use Rattle.wi_world.specs.declared.run.Run.{Run}
use Rattle.wi_world.specs.Moving.{IsMovingRun}
use Rattle.wi_world.specs.Runs.{verdict_of, is_less}
use Rattle.wi_world.specs.Holds.{Matches, NoneMovingLess, IsNo, Holds}
use Rattle.wi_world.proofs.HoldsLaws.{yes_moves}
use Rattle.wi_quantity.specs.Weighing.{components}
use Rattle.wi_trace.specs.declared.answer.Answer.{Answer}
use Rattle.wi_pds.specs.Closed.{Within}
use Rattle.wi_pds.specs.Runs.{Pops}
use Rattle.wi_build.specs.Problems.{Problem, IsProblem, IsAnswering, asks, weighs}
use Rattle.wi_build.specs.Systems.{scale, weight, rules}
use Rattle.wi_build.proofs.LawLemmas.{weight_tells}
use Rattle.wi_cert.specs.declared.certificate.Certificate.{Certificate}
use Rattle.wi_cert.specs.declared.shown.Claim.{Claim}
use Rattle.wi_cert.specs.declared.shown.Claim.TheVariants as claims
use Rattle.wi_cert.specs.declared.check_refused.CheckRefused.TheVariants.{Unbounded, BadSplit, Leaf}
use Rattle.wi_cert.specs.Shown.{is_no}
use Rattle.wi_accept.specs.Answers.{IsDecided, word_of, padded, run_of, answer_of}
use Rattle.wi_accept.specs.Causes.{is_wrong, bound_of, IsAccepted}
use Rattle.wi_accept.specs.Makers.{IsMaker}
use Rattle.wi_accept.proofs.RuleLemmas.{pops_answer}
use Rattle.wi_accept.proofs.OrderLemmas.{below_less}
use Rattle.wi_accept.proofs.WeightLemmas.{pops_weight, shown_six, bound_weight}
use Rattle.wi_accept.proofs.RightlyShown.{IsRightlyShown, nothing_against_shown}
use Rattle.wi_accept.proofs.Leasts.{nothing_open_in}

-- ---- the run that is shown

-- what an answer that holds says of its run
pub record IsLeastShown (problem : Problem) (claim : Claim) (w : List ℕ) (run : Run) (v : Verdict) : Type 0 where
  pub moving : IsMovingRun problem.net problem.bounds run
  pub matches : Matches problem.net (asks problem) run
  pub weight : weighs problem run ≡ w
  pub least : NoneMovingLess problem.net (asks problem) (weighs problem) w
  right : is_wrong claim v ≡ false

least_shown : (problem : Problem) → IsProblem problem → (claim : Claim) (w : List ℕ) (run : Run) (v : Verdict) → is_no claim ≡ false
    → Holds problem.net (asks problem) (weighs problem) (word_of claim) (Some w) (Some run) (Some v) → IsLeastShown problem claim w run v
least_shown problem k claims.No w run v there h = absurd (cc)
least_shown problem k claims.Yes w run (Fits fails) there h =
    record { moving = yes_moves problem.net (asks problem) k.network k.bounds_of (weighs problem) w run fails h; matches = h.matches; weight = h.weight; least = h.least_moving; right = refl }
least_shown problem k claims.Yes w run (Exceeds n) there h = absurd h
least_shown problem k claims.Yes w run (UsesFailed e) there h = absurd h
least_shown problem k claims.Inconclusive w run (Fits fails) there h = absurd h
least_shown problem k claims.Inconclusive w run (Exceeds n) there h = record { moving = h.moving; matches = h.matches; weight = h.weight; least = h.least_moving; right = refl }
least_shown problem k claims.Inconclusive w run (UsesFailed e) there h = record { moving = h.moving; matches = h.matches; weight = h.weight; least = h.least_moving; right = refl }

module _ (problem : Problem) (answer : Answer) (c : Certificate) (k : IsProblem problem) (decided : IsDecided problem answer) (maker : IsMaker problem answer c) where
  abbrev shown_run : Run
  shown_run = run_of problem.net c.shown

  abbrev shown_weight : List ℕ
  shown_weight = padded c.shown.terms c.shown.weight

  abbrev shown_verdict : Verdict
  shown_verdict = verdict_of problem.net problem.bounds shown_run

  -- the answer that is shown holds, and so its run is a least one
  shown_decided : IsDecided problem (answer_of problem c.shown)
  shown_decided = subst (λ (a : Answer). IsDecided problem a) (sym maker.shows) decided

  pub run_is_least : is_no c.shown.claim ≡ false → IsLeastShown problem c.shown.claim shown_weight shown_run shown_verdict
  run_is_least there =
      let holds : Holds problem.net (asks problem) (weighs problem) (word_of c.shown.claim) (Some (components (weight shown_weight))) (Some shown_run) (Some shown_verdict)
      = rw there at shown_decided in
      least_shown problem k c.shown.claim shown_weight shown_run shown_verdict there
      (subst (λ (w : List ℕ). Holds problem.net (asks problem) (weighs problem) (word_of c.shown.claim) (Some w) (Some shown_run) (Some shown_verdict)) (weight_tells shown_weight (shown_six c.shown maker.writable.shown there)) holds)

  pub shown_no : is_no c.shown.claim ≡ true → IsNo problem.net (asks problem)
  shown_no claim = rw claim at shown_decided

  rightly : is_no c.shown.claim ≡ false → IsRightlyShown problem c.shown
  rightly there = let is = run_is_least there in record { moving = is.moving; matches = is.matches; weight = is.weight; right = is.right }

  -- no goal run is within the bound
  none_within : (w : List ℕ) → Pops scale components (rules problem) 0 0 1 w → Within scale (bound_of c.shown) w → ⊥
  none_within w pops within = go (is_no c.shown.claim) refl
    where
      found : (run : Run) × IsAnswering problem w run
      found = pops_answer problem k w pops

      go : (b : Bool) → is_no c.shown.claim ≡ b → ⊥
      go true e = (shown_no e).moving found.0 found.1.moving found.1.matches
      go false e =
          let below : scale.order w shown_weight ≡ Less = rw e at within in
          let less = below_less w shown_weight (pops_weight (rules problem) 0 0 1 w pops ∙ sym (shown_six c.shown maker.writable.shown e)) below in
          let not_less = (run_is_least e).least found.0 found.1.moving found.1.matches in
          let weighed = ap (λ (x : List ℕ). is_less x shown_weight) found.1.weight in
          cc

  -- no cause of any kind
  pub nothing_against : IsAccepted problem c
  nothing_against (Unbounded r) h = nothing_open_in problem c.shown.terms (bound_of c.shown) c.closed maker.least (bound_weight c.shown maker.writable.shown) none_within r h
  nothing_against (BadSplit n) h = h
  nothing_against (Leaf n r) h = h
  nothing_against r h = nothing_against_shown problem c.shown k maker.about maker.terms rightly r h
