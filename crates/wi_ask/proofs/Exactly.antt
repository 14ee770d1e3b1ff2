-- Exact answers: what they show can be shown, and from the parts of both commands to the whole.
use Rattle.std.proofs.Common.{◌≡◌, ℕ, List, length, Option, Some, None, Result, Ok, Err, inl, inr, refl, ap, sym, ◌∙◌}
use Rattle.std.specs.Prelude.{option_map, IfErr, IfOk, IfSome, OnOk}
use Rattle.wi_base.specs.declared.shelf.CallKind.TheVariants.{Store}
use Rattle.wi_base.specs.Shelf.{ShelfSeen}
use Rattle.wi_net.specs.Net.{Net}
use Rattle.wi_world.specs.declared.run.Run.{Run}
use Rattle.wi_world.specs.declared.answer.Word.{Word}
use Rattle.wi_world.specs.declared.answer.Word.TheVariants.{Yes, No, Inconclusive}
use Rattle.wi_world.specs.declared.answer.Verdict.{Verdict}
use Rattle.wi_world.specs.declared.answer.Verdict.TheVariants.{Fits, Exceeds, UsesFailed}
use Rattle.wi_world.specs.Holds.{Question, Weighing}
use Rattle.wi_quantity.specs.Weighing.{components}
use Rattle.wi_trace.specs.declared.answer.Answer.{Answer}
use Rattle.wi_build.specs.Problems.{Problem, IsProblem, asks, weighs}
use Rattle.wi_cert.specs.declared.tree.TreeCertificate.{TreeCertificate}
use Rattle.wi_cert.specs.Trees.{IsTreeText}
use Rattle.wi_trees.specs.Trees.{HoldsExactly}
use Rattle.wi_accept.specs.Answers.{word_of}
use Rattle.wi_accept.specs.Trees.{IsDecidedExactly}
use Rattle.wi_branch.specs.declared.refused.AnswerRefused.TheVariants as none
use Rattle.wi_branch.specs.Exactly.{IsAnsweredExactly}
use Rattle.wi_report.specs.Reports.{IsKnownRun, accepted_text, exact_report_of}
use Rattle.std.proofs.lemmas.Bool.{and_parts}
use Rattle.wi_world.specs.Moves.{follows, is_start, is_usable, may_end}
use Rattle.wi_outcome.specs.declared.printed.Printed.{Printed}
use Rattle.wi_outcome.specs.declared.refusal.Refusal.{Refusal}
use Rattle.wi_outcome.specs.declared.refusal.Refusal.TheVariants.{CannotWrite, ManyNodes, Memory, NotAccepted, Overflow, TooLong, TreeNotWritten}
use Rattle.wi_files.specs.Certificates.{IsCertificateFile, IsLarge, IsNamed, FromKeepingTree, IsTreeStored}
use Rattle.wi_files.specs.Shelves.{IsCalm}
use Rattle.wi_files.proofs.Causes.{longer}
use Rattle.wi_ask.specs.Decided.{status_for}
use Rattle.wi_ask.specs.Exact.{EndsBySplitting, FromSplitting, FromTree, FromTreeStore, IsBelievedTreeFile, IsReportedExactly, IsShownExactly, IsTreeBelieved, IsTreeTooLarge}
use Rattle.wi_ask.specs.Wanted.{EndsExactly, FromAnswer}
use Rattle.wi_ask.specs.private.Stages.{FromJudgingTree}
use Rattle.wi_ask.proofs.Answers.{start_known}
use Rattle.wi_ask.proofs.Ending.{Ends, ends_as}

-- ---- what an exact answer is like

exact_run_known : (net : Net) (question : Question) (weigh : Weighing) (word : Word) (w : Option (List ℕ)) (run : Option Run) (verdict : Option Verdict) → HoldsExactly net question weigh word w run verdict → IfSome run (λ r. IsKnownRun net r)
exact_run_known net question weigh Yes (Some w) (Some run) (Some (Fits fails)) h = start_known net fails run (and_parts (is_start net fails run.first run.header) (follows net (is_usable net fails) (λ at. may_end net fails at run.end) (run.first, run.header) run.steps) h.trace).0
exact_run_known net question weigh word w None verdict h = tt
exact_run_known net question weigh Yes None (Some run) verdict h = elim h [ ]
exact_run_known net question weigh Yes (Some w) (Some run) None h = elim h [ ]
exact_run_known net question weigh Yes (Some w) (Some run) (Some (Exceeds n)) h = elim h [ ]
exact_run_known net question weigh Yes (Some w) (Some run) (Some (UsesFailed e)) h = elim h [ ]
exact_run_known net question weigh No None (Some run) verdict h = elim h [ ]
exact_run_known net question weigh No (Some w) (Some run) verdict h = elim h [ ]
exact_run_known net question weigh Inconclusive w (Some run) verdict h = elim h [ ]

-- the run that an exact answer shows can be shown
pub exact_known : (problem : Problem) (a : Answer) → IsDecidedExactly problem a → IfSome a.run (λ run. IsKnownRun problem.net run)
exact_known problem a h = exact_run_known problem.net (asks problem) (weighs problem) a.word (option_map components a.weight) a.run a.verdict h

exact_word_ends : (problem : Problem) (word : Word) (status : ℕ) (w : Option (List ℕ)) (run : Option Run) (verdict : Option Verdict) → HoldsExactly problem.net (asks problem) (weighs problem) word w run verdict → status ≡ status_for word → EndsExactly status
exact_word_ends problem Yes status w run verdict h is = inl is
exact_word_ends problem No status w run verdict h is = inr is
exact_word_ends problem Inconclusive status w run verdict h is = elim h [ ]

pub exact_answer_ends : (problem : Problem) (file : Option (List ℕ)) (shelf : ShelfSeen) (status : ℕ) (text : List ℕ) → IsReportedExactly problem file shelf status text → EndsExactly status
exact_answer_ends problem file shelf status text r = exact_word_ends problem r.answer.word status (option_map components r.answer.weight) r.answer.run r.answer.verdict r.is.exact.holds r.status_is

-- where there is none, the status is that of its cause
pub unsplit_due : (problem : Problem) (refusal : Refusal) → FromSplitting problem refusal → Ends (EndsBySplitting problem) refusal
unsplit_due problem (Overflow w terms) cause = (refl, inr (none.Overflow (record { head = cause.1.0; target = cause.1.1; weight = w }), cause.1.2, refl))
unsplit_due problem (TooLong effort) cause = (refl, inr (none.TooLong effort, cause, refl))
unsplit_due problem ManyNodes cause = (refl, inr (none.NodeLimit, cause, refl))
unsplit_due problem Memory cause = (refl, inl refl)
unsplit_due problem refusal cause = elim cause [ ]

-- ---- exact

-- the report on an exact answer whose tree isn't made, whatever files there are
pub answered_reported : (printed : Printed) (problem : Problem) (answer : Answer) (count : ℕ) → IsProblem problem → IsAnsweredExactly problem 10000 answer count → printed.status ≡ status_for answer.word
    → printed.text ≡ exact_report_of problem.net problem.bounds (length problem.vector) answer count → (shelf : ShelfSeen) → IsReportedExactly problem None shelf printed.status printed.text
answered_reported printed problem answer count k is status text shelf = record {
  answer = answer;
  tree = is.tree;
  is = record { problem_is = k; exact = is.exact; accepted = is.accepted };
  stored = tt;
  status_is = status;
  text_is = text ∙ ap (λ n. exact_report_of problem.net problem.bounds (length problem.vector) answer n) is.counted;
}

pub reported_at : (r : Result Printed Refusal) (problem : Problem) (shelf : ShelfSeen) → IfOk r (λ printed. (any : ShelfSeen) → IsReportedExactly problem None any printed.status printed.text)
    → IfOk r (λ printed. IsReportedExactly problem None shelf printed.status printed.text)
reported_at (Ok printed) problem shelf h = h shelf
reported_at (Err refusal) problem shelf h = tt

pub unanswered : (r : Result Printed Refusal) (shelf : ShelfSeen) (problem : Problem) (file : Option (List ℕ)) → IfErr r (FromSplitting problem)
    → IfErr r (λ refusal. FromAnswer FromSplitting (FromTreeStore file) shelf shelf problem refusal)
unanswered (Ok printed) shelf problem file h = tt
unanswered (Err refusal) shelf problem file h = inl (h, refl)

-- the report on an exact answer, with its tree
pub shown_reported : (r : Result Printed Refusal) (problem : Problem) (file : Option (List ℕ)) (shelf : ShelfSeen) (answer : Answer) (t : TreeCertificate) → IsShownExactly problem answer t
    → IfOk r (λ printed. printed.status ≡ status_for answer.word) → IfOk r (λ printed. printed.text ≡ exact_report_of problem.net problem.bounds (length problem.vector) answer (length t.nodes)) → IfOk r (λ _. IsTreeStored file shelf t)
    → IfOk r (λ printed. IsReportedExactly problem file shelf printed.status printed.text)
shown_reported (Err refusal) problem file shelf answer t is status text stored = tt
shown_reported (Ok printed) problem file shelf answer t is status text stored = record {
  answer = answer;
  tree = t;
  is = is;
  stored = stored;
  status_is = status;
  text_is = text;
}

-- where the tree isn't stored, the store failed, or memory ran out, or it is too large
tree_unkept_due : (old new : ShelfSeen) (file : Option (List ℕ)) (t : TreeCertificate) (refusal : Refusal) → IsCalm old new → FromKeepingTree old new file t refusal → Ends (λ status. (status ≡ 14) × IsNamed file × IsLarge t) refusal
tree_unkept_due old new file t TreeNotWritten calm cause = (refl, inr (refl, cause.1, cause.2))
tree_unkept_due old new file t (CannotWrite named said) calm cause = absurd (longer old.failed (Store, named.now) (sym cause.2.1 ∙ calm))
tree_unkept_due old new file t Memory calm cause = (refl, inl refl)
tree_unkept_due old new file t refusal calm cause = elim cause [ ]

pub tree_store_due : (old new : ShelfSeen) (file : Option (List ℕ)) (problem : Problem) (refusal : Refusal) → IsCalm old new → FromTreeStore file old new problem refusal → Ends (λ status. (status ≡ 14) × IsNamed file × IsTreeTooLarge problem) refusal
tree_store_due old new file problem refusal calm cause =
    ends_as (λ status. (status ≡ 14) × IsNamed file × IsLarge cause.tree) (λ status. (status ≡ 14) × IsNamed file × IsTreeTooLarge problem) refusal
    (λ status due. (due.0, due.1, record { answer = cause.answer; tree = cause.tree; is = cause.is; large = due.2 }))
    (tree_unkept_due old new file cause.tree refusal calm cause.unkept)

pub shown_refused : (r : Result Printed Refusal) (old new : ShelfSeen) (problem : Problem) (file : Option (List ℕ)) (answer : Answer) (t : TreeCertificate) → IsShownExactly problem answer t
    → IfErr r (λ refusal. FromKeepingTree old new file t refusal) → IfErr r (λ refusal. FromAnswer FromSplitting (FromTreeStore file) old new problem refusal)
shown_refused (Ok printed) old new problem file answer t is cause = tt
shown_refused (Err refusal) old new problem file answer t is cause = inr (record { answer = answer; tree = t; is = is; unkept = cause })

-- ---- check-exact

pub tree_file_believed : (r : Result Printed Refusal) (shelf : ShelfSeen) (problem : Problem) (file bytes : List ℕ) (t : TreeCertificate) → IsCertificateFile shelf file bytes → IsTreeText t bytes → OnOk r (IsTreeBelieved problem t)
    → IfOk r (λ printed. printed.status ≡ 0) → IfOk r (λ printed. printed.text ≡ accepted_text (word_of t.shown.claim))
    → IfOk r (λ printed. (t : TreeCertificate) × IsBelievedTreeFile shelf problem file t × (printed.status ≡ 0) × (printed.text ≡ accepted_text (word_of t.shown.claim)))
tree_file_believed (Ok printed) shelf problem file bytes t held reads believed status text = (t, record { bytes = bytes; held = held; reads = reads; believed = believed }, status, text)
tree_file_believed (Err refusal) shelf problem file bytes t held reads believed status text = tt

tree_not_believed : (old new : ShelfSeen) (problem : Problem) (file bytes : List ℕ) (t : TreeCertificate) (refusal : Refusal) → IsProblem problem → IsCalm old new → IsCertificateFile old file bytes → IsTreeText t bytes → FromJudgingTree problem t refusal
    → FromTree old new problem file refusal
tree_not_believed old new problem file bytes t (NotAccepted fault terms) is calm held reads cause = (calm, cause.0, record { problem_is = is; bytes = bytes; held = held; tree = t; reads = reads; refusal = cause.1 })
tree_not_believed old new problem file bytes t Memory is calm held reads cause = calm
tree_not_believed old new problem file bytes t refusal is calm held reads cause = elim cause [ ]

pub tree_file_not_believed : (r : Result Printed Refusal) (old new : ShelfSeen) (problem : Problem) (file bytes : List ℕ) (t : TreeCertificate) → IsProblem problem → IsCalm old new → IsCertificateFile old file bytes → IsTreeText t bytes
    → IfErr r (λ refusal. FromJudgingTree problem t refusal) → IfErr r (λ refusal. FromTree old new problem file refusal)
tree_file_not_believed (Ok printed) old new problem file bytes t is calm held reads cause = tt
tree_file_not_believed (Err refusal) old new problem file bytes t is calm held reads cause = tree_not_believed old new problem file bytes t refusal is calm held reads cause
