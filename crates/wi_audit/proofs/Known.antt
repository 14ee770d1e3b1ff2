-- Outcomes: the run of an exact answer can be shown, and where there is none there is a cause.
use Rattle.std.proofs.Common.{◌≡◌, ℕ, List, Option, Some, None, Result, Ok, Err, true, ◌&&◌}
use Rattle.std.specs.Prelude.{not, option_map, IfOk, IfSome, OnOk}
use Rattle.std.proofs.lemmas.Bool.{and_parts}
use Rattle.wi_labels.specs.Header.{is_valid_header}
use Rattle.wi_net.specs.declared.parts.LinkId.{LinkId}
use Rattle.wi_net.specs.LinkSet.{has}
use Rattle.wi_net.specs.Net.{Net, is_link, labels_known}
use Rattle.wi_world.specs.declared.run.Run.{Run}
use Rattle.wi_world.specs.declared.answer.Word.{Word}
use Rattle.wi_world.specs.declared.answer.Word.TheVariants.{Yes, No, Inconclusive}
use Rattle.wi_world.specs.declared.answer.Verdict.{Verdict}
use Rattle.wi_world.specs.declared.answer.Verdict.TheVariants.{Fits, Exceeds, UsesFailed}
use Rattle.wi_world.specs.Moves.{follows, is_start, is_usable, may_end}
use Rattle.wi_world.specs.Holds.{Question, Weighing}
use Rattle.wi_quantity.specs.Weighing.{components}
use Rattle.wi_trace.specs.declared.answer.Answer.{Answer}
use Rattle.wi_build.specs.Problems.{Problem, asks, weighs}
use Rattle.wi_trees.specs.Trees.{HoldsExactly}
use Rattle.wi_accept.specs.Trees.{IsDecidedExactly}
use Rattle.wi_base.specs.declared.no_memory.NoMemory.{NoMemory}
use Rattle.wi_branch.specs.declared.refused.AnswerRefused.{AnswerRefused}
use Rattle.wi_branch.specs.declared.refused.AnswerRefused.TheVariants as refused
use Rattle.wi_branch.specs.Exactly.{IsAnswerRefused}
use Rattle.wi_report.specs.Reports.{IsKnownRun}
use Rattle.wi_audit.specs.declared.outcome.Outcome.{Outcome}
use Rattle.wi_audit.specs.declared.outcome.Outcome.TheVariants.{Open}
use Rattle.wi_audit.specs.Outcomes.{IsOutcome}
use Rattle.wi_audit.specs.private.Shows.{IsShowable}

-- a packet sets out on a link and with labels of the network
start_known : (net : Net) (fails : List LinkId) (run : Run) → is_start net fails run.first run.header ≡ true → IsKnownRun net run
start_known net fails run start = record { link = link; header = parts.1 }
  where
    parts : (is_link net run.first && not (has fails run.first) && is_valid_header run.header ≡ true) × (labels_known net run.header ≡ true)
    parts = and_parts (is_link net run.first && not (has fails run.first) && is_valid_header run.header) (labels_known net run.header) start

    link : is_link net run.first ≡ true
    link =
        let one = (and_parts (is_link net run.first && not (has fails run.first)) (is_valid_header run.header) parts.0).0 in
        (and_parts (is_link net run.first) (not (has fails run.first)) one).0

run_known : (net : Net) (question : Question) (weigh : Weighing) (word : Word) (w : Option (List ℕ)) (run : Option Run) (verdict : Option Verdict) → HoldsExactly net question weigh word w run verdict → IfSome run (λ r. IsKnownRun net r)
run_known net question weigh Yes (Some w) (Some run) (Some (Fits fails)) h = start_known net fails run (and_parts (is_start net fails run.first run.header) (follows net (is_usable net fails) (λ at. may_end net fails at run.end) (run.first, run.header) run.steps) h.trace).0
run_known net question weigh word w None verdict h = tt
run_known net question weigh Yes None (Some run) verdict h = elim h [ ]
run_known net question weigh Yes (Some w) (Some run) None h = elim h [ ]
run_known net question weigh Yes (Some w) (Some run) (Some (Exceeds n)) h = elim h [ ]
run_known net question weigh Yes (Some w) (Some run) (Some (UsesFailed e)) h = elim h [ ]
run_known net question weigh No None (Some run) verdict h = elim h [ ]
run_known net question weigh No (Some w) (Some run) verdict h = elim h [ ]
run_known net question weigh Inconclusive w (Some run) verdict h = elim h [ ]

-- the run that an exact answer shows can be shown
pub exact_known : (problem : Problem) (a : Answer) → IsDecidedExactly problem a → IfSome a.run (λ run. IsKnownRun problem.net run)
exact_known problem a h = run_known problem.net (asks problem) (weighs problem) a.word (option_map components a.weight) a.run a.verdict h

-- ---- where there is none

pub open_outcome : (r : Result Outcome NoMemory) (problem : Problem) (cause : AnswerRefused) → IfOk r (λ o. o ≡ Open cause) → OnOk r (cause ≡ refused.Memory → ⊥) → IsAnswerRefused problem 10000 cause → IfOk r (λ o. IsOutcome problem o)
open_outcome (Err e) problem cause is decided none = tt
open_outcome (Ok o) problem cause is decided none = rw is (decided, none)

pub open_showable : (r : Result Outcome NoMemory) (net : Net) (cause : AnswerRefused) → IfOk r (λ o. o ≡ Open cause) → IfOk r (λ o. IsShowable net o)
open_showable (Err e) net cause is = tt
open_showable (Ok o) net cause is = rw is tt
