-- Heads, pairs and rows that nothing speaks against bound every run.
use Rattle.std.proofs.Common.{◌≡◌, ℕ, List, Option, Some, None, refl, ap, sym, ◌∙◌}
use Rattle.std.specs.Prelude.{IfSome}
use Rattle.wi_weight.specs.Weights.{IsWeight}
use Rattle.wi_world.specs.declared.run.Run.{Run}
use Rattle.wi_world.specs.Moving.{IsMovingRun}
use Rattle.wi_world.specs.Holds.{Matches}
use Rattle.wi_quantity.specs.Weighing.{components}
use Rattle.wi_pds.specs.Closed.{Summary, AreClosed, Within, BoundsRuns}
use Rattle.wi_pds.proofs.Bound.{bounds}
use Rattle.wi_build.specs.Problems.{Problem, IsProblem, asks, weighs}
use Rattle.wi_build.specs.Systems.{scale, weight, rules}
use Rattle.wi_build.proofs.LawLemmas.{weight_tells}
use Rattle.wi_cert.specs.declared.closed.Closed.{Closed}
use Rattle.wi_cert.specs.declared.check_refused.ClosedRefused.{ClosedRefused}
use Rattle.wi_cert.specs.declared.check_refused.ClosedRefused.TheVariants.{HeadMissing, PairMissing, GoalBelow, NotClosed}
use Rattle.wi_accept.specs.declared.follower.Follower.{Follower}
use Rattle.wi_accept.specs.declared.follower.Follower.TheVariants as follower
use Rattle.wi_accept.specs.Demands.{row}
use Rattle.wi_accept.specs.Causes.{rows_of, missing_in, goal_in, open_in, IsClosedCause}
use Rattle.wi_accept.proofs.ClosedLaws.{AreWeights, closed_heads, closed_rows, no_row_to}
use Rattle.wi_accept.proofs.RuleLemmas.{answers_pop}
use Rattle.wi_accept.proofs.WeightLemmas.{scale_laws, admitted}
use Rattle.wi_accept.proofs.DemandWeights.{to_weight, open_weight}

module _ (problem : Problem) (terms : ℕ) (bound : Option (List ℕ)) (c : Closed) (weights : AreWeights scale (rows_of terms c.rows)) (bound_is : IfSome bound (λ w. IsWeight scale w))
    (none : (r : ClosedRefused) → IsClosedCause problem terms bound c r → ⊥) where
  abbrev rows : List Summary
  rows = rows_of terms c.rows

  -- no head or pair is missing, there is no row to the goal, and none that has to be there isn't
  none_missing : missing_in problem c ≡ None
  none_missing = go (missing_in problem c) refl
    where
      go : (o : Option Follower) → missing_in problem c ≡ o → missing_in problem c ≡ None
      go None e = e
      go (Some (follower.Head p g)) e = absurd (none (HeadMissing p g) e)
      go (Some (follower.Pair u v)) e = absurd (none (PairMissing u v) e)

  none_below : goal_in terms c ≡ None
  none_below = go (goal_in terms c) refl
    where
      go : (o : Option (List ℕ)) → goal_in terms c ≡ o → goal_in terms c ≡ None
      go None e = e
      go (Some w) e = absurd (none (GoalBelow (weight w)) (e ∙ ap Some (sym (weight_tells w (to_weight rows weights 0 0 1 w e)))))

  none_open : open_in problem terms bound c ≡ None
  none_open = go (open_in problem terms bound c) refl
    where
      go : (o : Option Summary) → open_in problem terms bound c ≡ o → open_in problem terms bound c ≡ None
      go None e = e
      go (Some d) e =
          let told = weight_tells d.weight (open_weight rows weights (rules problem) c.heads bound d e) in
          absurd (none (NotClosed (d.p, d.g) d.q (weight d.weight)) (e ∙ ap (λ (w : List ℕ). Some (row d.p d.g d.q w)) (sym told)))

  -- so the rows bound every run
  closed : AreClosed (rules problem) (0, 0) c.heads c.pairs
  closed = closed_heads (rules problem) (0, 0) c.heads c.pairs none_missing

  bounded : BoundsRuns scale components (rules problem) c.heads c.pairs rows bound
  bounded =
      bounds scale components scale_laws admitted (rules problem) (0, 0) c.heads c.pairs rows bound closed
      (closed_rows scale components scale_laws admitted (rules problem) c.heads rows bound weights bound_is none_open)

  -- no run that matches is within the bound
  pub none_within : IsProblem problem → (run : Run) → IsMovingRun problem.net problem.bounds run → Matches problem.net (asks problem) run → Within scale bound (weighs problem run) → ⊥
  none_within k run moving matches within =
      let pops = answers_pop problem k (weighs problem run) run (record { moving = moving; matches = matches; weight = refl }) in
      let found = bounded.bounded 0 0 1 (weighs problem run) closed.begins pops within in
      no_row_to rows 0 0 1 none_below found.0 found.1
