-- A status of 1 is a no, and where dropped packets are asked for a no is survival.
use Rattle.std.proofs.Common.{◌≡◌, inl, inr, ℕ, List, Option, Some, None, refl, subst, ◌∙◌, arith}
use Rattle.std.specs.Prelude.{option_map}
use Rattle.wi_base.specs.Shelf.{ShelfSeen}
use Rattle.wi_base.specs.Sink.{SinkSeen}
use Rattle.wi_net.specs.Net.{Net}
use Rattle.wi_world.specs.declared.answer.Word.{Word}
use Rattle.wi_world.specs.declared.answer.Word.TheVariants.{Yes, No, Inconclusive}
use Rattle.wi_world.specs.declared.answer.Verdict.{Verdict}
use Rattle.wi_world.specs.declared.run.Run.{Run}
use Rattle.wi_world.specs.Holds.{Question, Weighing, Holds, IsNo, NoTrace}
use Rattle.wi_quantity.specs.Weighing.{components}
use Rattle.wi_trace.specs.declared.answer.Answer.{Answer}
use Rattle.wi_build.specs.Problems.{Problem, IsProblem, asks, problem_of, weighs}
use Rattle.wi_build.proofs.Losses.{traces, moving}
use Rattle.wi_accept.specs.Answers.{IsDecided}
use Rattle.wi_accept.specs.Trees.{IsDecidedExactly}
use Rattle.wi_trees.specs.Trees.{HoldsExactly}
use Rattle.wi_branch.proofs.ToleranceLaws.{no_says}
use Rattle.wi_words.specs.declared.Content.{Content}
use Rattle.wi_words.specs.Commands.{Asking, Ask, Verify, Exact, Wanted, command_of}
use Rattle.wi_outcome.specs.Edges.{Prints}
use Rattle.wi_outcome.specs.declared.refusal.Refusal.TheVariants.{CannotPrint, Memory}
use Rattle.wi_ask.specs.Decided.{IsReported, status_for}
use Rattle.wi_ask.specs.Exact.{IsReportedExactly}
use Rattle.wi_ask.specs.Asked.{ForAsking}
use Rattle.wi_app.specs.Run.{AreAnswered, Does, IsAnswered}
use Rattle.wi_app.specs.Surviving.{IsSurvived, IsSurvivedMoving}
use Rattle.wi_ask.specs.Wanted.{IsGiven}
use Rattle.wi_app.proofs.Written.{unanswered_high, why_high}

-- ---- a status of 1 is a no
no_for : (word : Word) → 1 ≡ status_for word → word ≡ No
no_for Yes e = absurd (omega (arith, e))
no_for No e = refl
no_for Inconclusive e = absurd (omega (arith, e))

printed_1 : (status : ℕ) (text : List ℕ) (out printed err said : SinkSeen) → Prints status text out printed err said 1 → 1 ≡ status
printed_1 status text out printed err said p = elim p [
  | inl all ↦ all.2
  | inr rest ↦ elim rest [
    | inl part ↦ (let high = why_high CannotPrint err said 1 part.1 in absurd (omega (arith, high)))
    | inr nothing ↦ (let high = why_high Memory err said 1 nothing.1 in absurd (omega (arith, high)))
  ]
]

no_of : (net : Net) (question : Question) (weigh : Weighing) (w : Option (List ℕ)) (run : Option Run) (verdict : Option Verdict) → Holds net question weigh No w run verdict → IsNo net question
no_of net question weigh None None None h = h
no_of net question weigh (Some w) run verdict h = elim h [ ]
no_of net question weigh None (Some run) verdict h = elim h [ ]
no_of net question weigh None None (Some verdict) h = elim h [ ]

decided_no : (problem : Problem) (answer : Answer) → IsDecided problem answer → answer.word ≡ No → IsNo problem.net (asks problem)
decided_no problem answer holds is =
    no_of problem.net (asks problem) (weighs problem) (option_map components answer.weight) answer.run answer.verdict
    (subst (λ word. Holds problem.net (asks problem) (weighs problem) word (option_map components answer.weight) answer.run answer.verdict) is holds)

exactly_no : (problem : Problem) (answer : Answer) → IsDecidedExactly problem answer → answer.word ≡ No → NoTrace problem.net (asks problem)
exactly_no problem answer holds is =
    no_says problem.net (asks problem) (weighs problem) (option_map components answer.weight) answer.run answer.verdict
    (subst (λ word. HoldsExactly problem.net (asks problem) (weighs problem) word (option_map components answer.weight) answer.run answer.verdict) is holds)

-- ---- which is survival
reported_survives : (content : Content) (problem : Problem) (file : Option (List ℕ)) (shelf : ShelfSeen) (status : ℕ) (text : List ℕ) → IsProblem problem → 1 ≡ status → IsReported content problem file shelf status text → IsSurvived problem × IsSurvivedMoving problem
reported_survives content problem file shelf status text k one r =
    let no = decided_no problem r.answer r.holds (no_for r.answer.word (one ∙ r.status_is)) in
    (λ drops. (traces problem k drops).0 no.traces, λ drops. (moving problem k drops).0 no.moving)

exactly_survives : (problem : Problem) (file : Option (List ℕ)) (shelf : ShelfSeen) (status : ℕ) (text : List ℕ) → IsProblem problem → 1 ≡ status → IsReportedExactly problem file shelf status text → IsSurvived problem
exactly_survives problem file shelf status text k one r =
    λ drops. (traces problem k drops).0 (exactly_no problem r.answer r.is.exact.holds (no_for r.answer.word (one ∙ r.status_is)))

-- what is answered with the status 1 says what follows of the problem
said_of_1 : (words : List (List ℕ)) (asking : Asking) (wanted : Wanted) (P : Problem → Type 0) (shelf after : ShelfSeen) (out printed err said : SinkSeen) → command_of words ≡ Some (Ask asking wanted)
    → ((problem : Problem) (status : ℕ) (text : List ℕ) → IsProblem problem → 1 ≡ status → IsGiven wanted shelf after problem status text → P problem)
    → Does words shelf after out printed err said 1 → ForAsking shelf asking P
said_of_1 words asking wanted P shelf after out printed err said is follows does = elim does [
  | inl done ↦ (
      let one = printed_1 done.status done.text out printed err said done.printed in
      let answered : IsAnswered shelf after (Ask asking wanted) done.status done.text = subst (λ c. AreAnswered shelf after c done.status done.text) is done.answered in
      let asked = answered.2 in
      (answered.0, answered.1, (asked.0, asked.1, asked.2, asked.3, follows (problem_of answered.0 asked.0 asked.1) done.status done.text asked.3 one asked.4)))
  | inr other ↦ (let high = unanswered_high (command_of words) shelf after out printed err said 1 other in absurd (omega (arith, high)))
]

pub verified_survives : (words : List (List ℕ)) (asking : Asking) (content : Content) (file : Option (List ℕ)) (shelf after : ShelfSeen) (out printed err said : SinkSeen) → command_of words ≡ Some (Ask asking (Verify content file)) → Does words shelf after out printed err said 1
    → ForAsking shelf asking (λ problem. IsSurvived problem × IsSurvivedMoving problem)
verified_survives words asking content file shelf after out printed err said is does =
    said_of_1 words asking (Verify content file) (λ problem. IsSurvived problem × IsSurvivedMoving problem) shelf after out printed err said is (λ problem status text k one r. reported_survives content problem file after status text k one r) does

pub exact_survives : (words : List (List ℕ)) (asking : Asking) (file : Option (List ℕ)) (shelf after : ShelfSeen) (out printed err said : SinkSeen) → command_of words ≡ Some (Ask asking (Exact file)) → Does words shelf after out printed err said 1 → ForAsking shelf asking IsSurvived
exact_survives words asking file shelf after out printed err said is does =
    said_of_1 words asking (Exact file) IsSurvived shelf after out printed err said is (λ problem status text k one r. exactly_survives problem file after status text k one r) does
