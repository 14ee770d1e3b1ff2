-- What is decided: the report on what texts ask of a network, and why there is none.
use Rattle.std.specs.Prelude.{◌≡◌, ◌⊎◌, ℕ, List, ◌++◌, length, Option}
use Rattle.wi_base.specs.Shelf.{ShelfSeen}
use Rattle.wi_world.specs.declared.answer.Word.{Word}
use Rattle.wi_world.specs.declared.answer.Word.TheVariants.{Yes, No, Inconclusive}
use Rattle.wi_quantity.specs.Weighing.{components}
use Rattle.wi_trace.specs.declared.answer.Answer.{Answer}
use Rattle.wi_build.specs.Problems.{Problem}
use Rattle.wi_accept.specs.Answers.{IsDecided}
use Rattle.wi_decide.specs.Refusals.{IsOverflowing, IsTooLong, IsUnrefused}
use Rattle.wi_report.specs.Reports.{report_of}
use Rattle.wi_report.specs.Packets.{packets_of}
use Rattle.wi_draw.specs.Drawings.{answer_drawn}
use Rattle.wi_words.specs.declared.Content.{Content}
use Rattle.wi_words.specs.declared.Content.TheVariants.{Report, Packets, Drawing}
use Rattle.wi_outcome.specs.declared.refusal.Refusal.{Refusal}
use Rattle.wi_outcome.specs.declared.refusal.Refusal.TheVariants.{Memory, Overflow, TooLong}
use Rattle.wi_ask.specs.Certificates.{IsStored}

-- the exit status of an answer
abbrev pub status_for : Word → ℕ
status_for Yes = 0
status_for No = 1
status_for Inconclusive = 2

-- the report on an answer to a problem
abbrev pub report_in : Problem → Answer → List ℕ
report_in problem answer = report_of problem.net problem.bounds (length problem.vector) answer

-- the report, and behind it the packets of the run that the answer shows
abbrev pub packets_in : Problem → Answer → List ℕ
packets_in problem answer = report_in problem answer ++ packets_of problem.net answer.run

-- the network, and the run that the answer shows over it
abbrev pub drawing_in : Problem → Answer → List ℕ
drawing_in problem answer = answer_drawn problem.net problem.bounds (length problem.vector) answer

-- what is printed of an answer
abbrev pub printed_by : Content → Problem → Answer → List ℕ
printed_by Report = report_in
printed_by Packets = packets_in
printed_by Drawing = drawing_in

-- the text, by what is printed, of an answer to a problem that holds and can be shown, with its status; its certificate stands under
-- the name, if there is one
pub record IsReported (content : Content) (problem : Problem) (file : Option (List ℕ)) (shelf : ShelfSeen) (status : ℕ) (text : List ℕ) : Type 0 where
  pub answer : Answer
  pub holds : IsDecided problem answer
  pub shown : IsUnrefused problem answer
  pub stored : IsStored file shelf problem answer
  pub status_is : status ≡ status_for answer.word
  pub text_is : text ≡ printed_by content problem answer

-- there is an answer, but a summary's weight doesn't fit, or else the least run is too long
abbrev pub FromDecision : Problem → Refusal → Type 0
FromDecision problem (Overflow w terms) = IsOverflowing problem (components w) × (terms ≡ length problem.vector)
FromDecision problem (TooLong effort) = IsTooLong problem effort
FromDecision problem Memory = Unit {0}
FromDecision problem refusal = ⊥

-- the status with which it then ends
abbrev pub EndsByDecision : Problem → ℕ → Type 0
EndsByDecision problem status = ((status ≡ 6) × ((w : List ℕ) × IsOverflowing problem w)) ⊎ ((status ≡ 7) × ((effort : ℕ) × IsTooLong problem effort))
