-- From a certificate that is held against a problem to the command that does so.
use Rattle.std.proofs.Common.{◌≡◌, ℕ, List, Result, Ok, Err}
use Rattle.std.specs.Prelude.{IfErr, IfOk, OnOk}
use Rattle.wi_base.specs.Shelf.{ShelfSeen}
use Rattle.wi_build.specs.Problems.{Problem, IsProblem}
use Rattle.wi_cert.specs.declared.certificate.Certificate.{Certificate}
use Rattle.wi_cert.specs.declared.check_refused.CheckRefused.{CheckRefused}
use Rattle.wi_cert.specs.Text.{IsText}
use Rattle.wi_accept.specs.Answers.{word_of}
use Rattle.wi_report.specs.Reports.{accepted_text}
use Rattle.wi_outcome.specs.declared.printed.Printed.{Printed}
use Rattle.wi_outcome.specs.declared.refusal.Refusal.{Refusal}
use Rattle.wi_outcome.specs.declared.refusal.Refusal.TheVariants.{Memory, NotAccepted}
use Rattle.wi_files.specs.Certificates.{FromLines, IsCertificateFile}
use Rattle.wi_files.specs.Shelves.{IsCalm}
use Rattle.wi_ask.specs.Certificates.{FromCertificate, FromFile, IsBelieved, IsBelievedFile}
use Rattle.wi_ask.specs.private.Stages.{FromJudging}

pub file_believed : (r : Result Printed Refusal) (shelf : ShelfSeen) (problem : Problem) (file bytes : List ℕ) (c : Certificate) → IsCertificateFile shelf file bytes → IsText c bytes → OnOk r (IsBelieved problem c)
    → IfOk r (λ printed. printed.status ≡ 0) → IfOk r (λ printed. printed.text ≡ accepted_text (word_of c.shown.claim))
    → IfOk r (λ printed. (c : Certificate) × IsBelievedFile shelf problem file c × (printed.status ≡ 0) × (printed.text ≡ accepted_text (word_of c.shown.claim)))
file_believed (Ok printed) shelf problem file bytes c held reads believed status text = (c, record { bytes = bytes; held = held; reads = reads; believed = believed }, status, text)
file_believed (Err refusal) shelf problem file bytes c held reads believed status text = tt

-- what is wrong with a file's lines is the cause
pub lines_refused : (IsBad : List ℕ → ℕ → Type 0) (IsAgainst : CheckRefused → Type 0) (old new : ShelfSeen) (problem : Problem) (name : List ℕ) (refusal : Refusal) → FromLines IsBad old new name refusal → FromFile IsBad IsAgainst old new problem name refusal
lines_refused IsBad IsAgainst old new problem name (NotAccepted fault terms) cause = elim cause [ ]
lines_refused IsBad IsAgainst old new problem name refusal cause = cause

not_believed : (old new : ShelfSeen) (problem : Problem) (file bytes : List ℕ) (c : Certificate) (refusal : Refusal) → IsProblem problem → IsCalm old new → IsCertificateFile old file bytes → IsText c bytes → FromJudging problem c refusal
    → FromCertificate old new problem file refusal
not_believed old new problem file bytes c (NotAccepted fault terms) is calm held reads cause = (calm, cause.0, record { problem_is = is; bytes = bytes; held = held; certificate = c; reads = reads; refusal = cause.1 })
not_believed old new problem file bytes c Memory is calm held reads cause = calm
not_believed old new problem file bytes c refusal is calm held reads cause = elim cause [ ]

pub file_not_believed : (r : Result Printed Refusal) (old new : ShelfSeen) (problem : Problem) (file bytes : List ℕ) (c : Certificate) → IsProblem problem → IsCalm old new → IsCertificateFile old file bytes → IsText c bytes
    → IfErr r (λ refusal. FromJudging problem c refusal) → IfErr r (λ refusal. FromCertificate old new problem file refusal)
file_not_believed (Ok printed) old new problem file bytes c is calm held reads cause = tt
file_not_believed (Err refusal) old new problem file bytes c is calm held reads cause = not_believed old new problem file bytes c refusal is calm held reads cause
