-- What an answer that holds is like: its run can be shown, and its word comes with a status that may come.
use Rattle.std.proofs.Common.{◌≡◌, ℕ, ◌<◌, inl, inr, true, ◌&&◌, List, Option, Some, None}
use Rattle.std.specs.Prelude.{not, option_map, IfSome}
use Rattle.std.proofs.lemmas.Bool.{and_parts}
use Rattle.wi_labels.specs.Header.{is_valid_header}
use Rattle.wi_net.specs.declared.parts.LinkId.{LinkId}
use Rattle.wi_net.specs.LinkSet.{has}
use Rattle.wi_net.specs.Net.{Net, is_link, labels_known}
use Rattle.wi_world.specs.declared.run.Run.{Run}
use Rattle.wi_world.specs.declared.answer.Word.{Word}
use Rattle.wi_world.specs.declared.answer.Word.TheVariants.{Yes, No, Inconclusive}
use Rattle.wi_world.specs.declared.answer.Verdict.{Verdict}
use Rattle.wi_world.specs.declared.answer.Verdict.TheVariants.{Fits, Exceeds, UsesFailed}
use Rattle.wi_world.specs.Moves.{is_usable, may_end, follows, is_start}
use Rattle.wi_world.specs.Holds.{Holds, Question, Weighing}
use Rattle.wi_quantity.specs.Weighing.{components}
use Rattle.wi_trace.specs.declared.answer.Answer.{Answer}
use Rattle.wi_build.specs.Problems.{Problem, asks, weighs}
use Rattle.wi_accept.specs.Answers.{IsDecided}
use Rattle.wi_report.specs.Reports.{IsKnownRun}
use Rattle.wi_base.specs.Shelf.{ShelfSeen}
use Rattle.wi_words.specs.declared.Content.{Content}
use Rattle.wi_ask.specs.Decided.{IsReported, status_for}
use Rattle.wi_ask.specs.Wanted.{EndsAnswered}

-- a packet sets out on a link and with labels of the network
pub start_known : (net : Net) (fails : List LinkId) (run : Run) → is_start net fails run.first run.header ≡ true → IsKnownRun net run
start_known net fails run start = record { link = link; header = parts.1 }
  where
    parts : (is_link net run.first && not (has fails run.first) && is_valid_header run.header ≡ true) × (labels_known net run.header ≡ true)
    parts = and_parts (is_link net run.first && not (has fails run.first) && is_valid_header run.header) (labels_known net run.header) start

    link : is_link net run.first ≡ true
    link =
        let one = (and_parts (is_link net run.first && not (has fails run.first)) (is_valid_header run.header) parts.0).0 in
        (and_parts (is_link net run.first) (not (has fails run.first)) one).0

run_known : (net : Net) (question : Question) (weigh : Weighing) (word : Word) (w : Option (List ℕ)) (run : Run) (verdict : Option Verdict) → Holds net question weigh word w (Some run) verdict → IsKnownRun net run
run_known net question weigh Yes (Some w) run (Some (Fits fails)) h =
    start_known net fails run (and_parts (is_start net fails run.first run.header) (follows net (is_usable net fails) (λ at. may_end net fails at run.end) (run.first, run.header) run.steps) h.trace).0
run_known net question weigh Yes (Some w) run (Some (Exceeds n)) h = elim h [ ]
run_known net question weigh Yes (Some w) run (Some (UsesFailed e)) h = elim h [ ]
run_known net question weigh Yes (Some w) run None h = elim h [ ]
run_known net question weigh Yes None run verdict h = elim h [ ]
run_known net question weigh Inconclusive (Some w) run (Some (Exceeds n)) h = start_known net question.bounds.down run h.moving.start
run_known net question weigh Inconclusive (Some w) run (Some (UsesFailed e)) h = start_known net question.bounds.down run h.moving.start
run_known net question weigh Inconclusive (Some w) run (Some (Fits fails)) h = elim h [ ]
run_known net question weigh Inconclusive (Some w) run None h = elim h [ ]
run_known net question weigh Inconclusive None run verdict h = elim h [ ]
run_known net question weigh No (Some w) run verdict h = elim h [ ]
run_known net question weigh No None run verdict h = elim h [ ]

runs_known : (net : Net) (question : Question) (weigh : Weighing) (word : Word) (w : Option (List ℕ)) (run : Option Run) (verdict : Option Verdict) → Holds net question weigh word w run verdict → IfSome run (λ r. IsKnownRun net r)
runs_known net question weigh word w None verdict h = tt
runs_known net question weigh word w (Some run) verdict h = run_known net question weigh word w run verdict h

-- the run that an answer shows can be shown
pub answer_known : (problem : Problem) (a : Answer) → IsDecided problem a → IfSome a.run (λ run. IsKnownRun problem.net run)
answer_known problem a h = runs_known problem.net (asks problem) (weighs problem) a.word (option_map components a.weight) a.run a.verdict h

-- an inconclusive comes only where something may fail
may_fail : (net : Net) (question : Question) (weigh : Weighing) (w : Option (List ℕ)) (run : Option Run) (verdict : Option Verdict) → Holds net question weigh Inconclusive w run verdict → 0 < question.bounds.k
may_fail net question weigh (Some w) (Some run) (Some (Exceeds n)) h = h.may_fail
may_fail net question weigh (Some w) (Some run) (Some (UsesFailed e)) h = h.may_fail
may_fail net question weigh (Some w) (Some run) (Some (Fits fails)) h = elim h [ ]
may_fail net question weigh (Some w) (Some run) None h = elim h [ ]
may_fail net question weigh (Some w) None verdict h = elim h [ ]
may_fail net question weigh None run verdict h = elim h [ ]

word_ends : (problem : Problem) (word : Word) (status : ℕ) (w : Option (List ℕ)) (run : Option Run) (verdict : Option Verdict) → Holds problem.net (asks problem) (weighs problem) word w run verdict → status ≡ status_for word
    → EndsAnswered problem status
word_ends problem Yes status w run verdict h is = inl (inl is)
word_ends problem No status w run verdict h is = inl (inr is)
word_ends problem Inconclusive status w run verdict h is = inr (is, may_fail problem.net (asks problem) (weighs problem) w run verdict h)

pub answer_ends : (content : Content) (problem : Problem) (file : Option (List ℕ)) (shelf : ShelfSeen) (status : ℕ) (text : List ℕ) → IsReported content problem file shelf status text → EndsAnswered problem status
answer_ends content problem file shelf status text r = word_ends problem r.answer.word status (option_map components r.answer.weight) r.answer.run r.answer.verdict r.holds r.status_is
