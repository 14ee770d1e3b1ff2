-- What a search without cut found gives the answer.
use Rattle.std.proofs.Common.{◌≡◌, ℕ, ◌≤◌, ◌^◌, List, Option, Some, None, sym, subst}
use Rattle.std.specs.Prelude.{IfSome, option_map}
use Rattle.wi_weight.specs.declared.kinds.Pair.{Pair}
use Rattle.wi_weight.specs.declared.kinds.Terms.{Terms}
use Rattle.wi_weight.specs.declared.kinds.Effort.{Effort}
use Rattle.wi_weight.specs.Weights.{EachBelow}
use Rattle.wi_net.specs.Network.{IsNetwork}
use Rattle.wi_world.specs.declared.run.Run.{Run}
use Rattle.wi_world.specs.declared.answer.Verdict.{Verdict}
use Rattle.wi_world.specs.Moves.{AreBounds}
use Rattle.wi_world.specs.Runs.{effort_of, verdict_of}
use Rattle.wi_world.specs.Holds.{Holds, IsNo, NoneMovingLess}
use Rattle.wi_world.specs.private.Holds.{word_for}
use Rattle.wi_world.proofs.HoldsLaws.{no_from_moving, answer_by_verdict}
use Rattle.wi_quantity.specs.Weighing.{components}
use Rattle.wi_trace.specs.declared.answer.Answer.{Answer}
use Rattle.wi_build.specs.Problems.{Problem, asks, weighs}
use Rattle.wi_decide.specs.declared.searching.LeastRun.{LeastRun}
use Rattle.wi_decide.specs.Searches.{AllFitBelow, IsFound, IsLeastBelow}
use Rattle.wi_decide.specs.Refusals.{IsUnrefused}

-- where no run was found it is a no
pub is_no : (problem : Problem) (found : Option LeastRun) → IsNetwork problem.net → AreBounds problem.net problem.bounds → found ≡ None → IsFound problem None found → IsNo problem.net (asks problem)
is_no problem found k b none h =
    let no_run = subst (λ (f : Option LeastRun). IsFound problem None f) none h in
    no_from_moving problem.net (asks problem) k b (λ run moving matches. no_run run moving matches tt)

-- a least run gives the answer, by its verdict
pub answer_holds : (problem : Problem) (w : List ℕ) (run : Run) (v : Verdict) → IsNetwork problem.net → AreBounds problem.net problem.bounds → IsLeastBelow problem None w run
    → v ≡ verdict_of problem.net problem.bounds run → Holds problem.net (asks problem) (weighs problem) (word_for v) (Some w) (Some run) (Some v)
answer_holds problem w run v k b least is =
    let P : List ℕ → Type 0 = λ x. NoneMovingLess problem.net (asks problem) (weighs problem) x in
    let Q : List ℕ → Type 0 = λ x. Holds problem.net (asks problem) (weighs problem) (word_for v) (Some x) (Some run) (Some v) in
    subst Q least.answers.weight
    (answer_by_verdict problem.net (asks problem) k b (weighs problem) run v least.answers.moving least.answers.matches (sym is) (subst P (sym least.answers.weight) least.least))

-- its weight has components of 64 bits
pub answer_small : (found : Option LeastRun) (weight : Option (Pair Terms Effort)) → IfSome found (λ f. EachBelow (2 ^ 64) (components f.weight)) → weight ≡ option_map (λ f. f.weight) found
    → IfSome weight (λ w. EachBelow (2 ^ 64) (components w))
answer_small found weight small same = subst (λ (o : Option (Pair Terms Effort)). IfSome o (λ w. EachBelow (2 ^ 64) (components w))) (sym same) (go found small)
  where
    go : (f : Option LeastRun) → IfSome f (λ x. EachBelow (2 ^ 64) (components x.weight)) → IfSome (option_map (λ x. x.weight) f) (λ w. EachBelow (2 ^ 64) (components w))
    go None h = tt
    go (Some x) h = h

-- neither refusal is due
pub not_due : (problem : Problem) (found : Option LeastRun) (a : Answer) → IsFound problem None found → AllFitBelow problem None → a.run ≡ option_map (λ f. f.run) found → IsUnrefused problem a
not_due problem found a h fits same = record {
  fits = fits;
  short = subst (λ (o : Option Run). IfSome o (λ run. effort_of problem.net run ≤ 4096)) (sym same) (go found h);
}
  where
    go : (f : Option LeastRun) → IsFound problem None f → IfSome (option_map (λ x. x.run) f) (λ run. effort_of problem.net run ≤ 4096)
    go None k = tt
    go (Some x) k = k.1
