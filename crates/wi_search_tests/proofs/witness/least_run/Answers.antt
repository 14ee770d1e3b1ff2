use Rattle.std.proofs.Common.{◌≡◌, ℕ, List, Option, Some, None, IfSome, option_map, sym, ◌∙◌}
use Rattle.std.proofs.lemmas.Result.{IfOk-weaker}
use Rattle.wi_weight.specs.Weights.{Scale}
use Rattle.wi_weight.specs.Kinds.{pair_scale, effort_scale}
use Rattle.wi_pds.specs.declared.rule.Rule.{Rule}
use Rattle.wi_pds.specs.declared.rule.RuleId.{RuleId}
use Rattle.wi_pds.specs.Rules.{rules_at}
use Rattle.wi_pds.specs.Runs.{Least}
use Rattle.wi_pds.specs.Closed.{Within}
use Rattle.wi_witness.specs.GoalRuns.{IsNamedRun}
use Rattle.wi_witness.specs.Derivations.{with_effort}
use Rattle.wi_witness.proofs.Tables.{least_derivation}
use Rattle.wi_search_tests.proofs.witness.least_run.Goals as goal

pub unfold-run-requires-clause-derived : goal.unfold-run-requires-clause-derived
unfold-run-requires-clause-derived g c = (rules_at c.args.list.now.rules, (0, 0, 1), least_derivation _ _ _ _ _ _ _ _ c.in-Ok.ensures)

least_named : {W : Type 0} (m : Scale) (c : W → List ℕ) (rules : ℕ → ℕ → List (Rule W)) (best : Option W) (b : W) (ids : List RuleId) → best ≡ Some b
    → IfSome (option_map c best) (λ b. Least m c rules 0 0 1 b × Within m None b) → IfSome best (λ b. IsNamedRun m c rules 0 0 1 ids (c b))
    → (w : List ℕ) × Least m c rules 0 0 1 w × IsNamedRun m c rules 0 0 1 ids w
least_named m c rules None b ids some least run = cc
least_named m c rules (Some b) b' ids some least run = (c b, least.0, run)

pub returns : goal.returns
returns g c =
    let m : Scale = pair_scale g.A.Domain.scale effort_scale in
    IfOk-weaker c.unfold-run.result _ _
    (λ ids run.
    least_named m (with_effort g.A.Domain.components) (rules_at c.args.list.now.rules) c.in-Ok.table.best c.in-Some._weight ids.items (sym c.best.ensures ∙ c.in-Some.is) c.in-Ok.ensures.found
    (run (rules_at c.args.list.now.rules) (0, 0, 1) (least_derivation _ _ _ _ _ _ _ _ c.in-Ok.ensures)))
    c.unfold-run.ensures.run
