-- Certificates as they are stored, and as they are checked.
use Rattle.std.specs.Prelude.{◌≡◌, ℕ, ◌<◌, ◌≤◌, true, List, length, Option, Some, None}
use Rattle.wi_base.specs.Shelf.{ShelfSeen}
use Rattle.wi_trace.specs.declared.answer.Answer.{Answer}
use Rattle.wi_build.specs.Problems.{Problem, IsProblem}
use Rattle.wi_cert.specs.declared.certificate.Certificate.{Certificate}
use Rattle.wi_cert.specs.declared.check_refused.CheckRefused.{CheckRefused}
use Rattle.wi_cert.specs.Sheets.{certificates}
use Rattle.wi_cert.specs.Text.{IsText, IsBadLine, closed_text}
use Rattle.wi_accept.specs.Answers.{IsDecided, answer_of}
use Rattle.wi_accept.specs.Causes.{IsAccepted, IsRefusal}
use Rattle.wi_accept.specs.Makers.{IsMaker}
use Rattle.wi_decide.specs.Refusals.{IsUnrefused}
use Rattle.wi_outcome.specs.declared.refusal.Refusal.{Refusal}
use Rattle.wi_outcome.specs.declared.refusal.Refusal.TheVariants.{NotAccepted}
use Rattle.wi_files.specs.declared.certificate_file.TheConstants.{WRITTEN_LIMIT}
use Rattle.wi_files.specs.Certificates.{FromLines, IsCertificateFile, FromKeeping}
use Rattle.wi_files.specs.Shelves.{IsCalm}

-- ---- written
-- a maker's certificate for an answer to a problem; nothing speaks against it
pub record IsCertificate (problem : Problem) (answer : Answer) (c : Certificate) : Type 0 where
  pub problem_is : IsProblem problem
  pub made : IsMaker problem answer c
  pub accepted : IsAccepted problem c

-- an answer to a problem that holds and can be shown, with its certificate
pub record IsCertified (problem : Problem) (answer : Answer) (c : Certificate) : Type 0 where
  pub holds : IsDecided problem answer
  pub shown : IsUnrefused problem answer
  pub is : IsCertificate problem answer c

-- bytes are the text of a maker's certificate that isn't too long to be written
pub record IsCertificateText (problem : Problem) (answer : Answer) (bytes : List ℕ) : Type 0 where
  pub certificate : Certificate
  pub is : IsCertificate problem answer certificate
  pub text : IsText certificate bytes
  pub short : length (closed_text certificate) ≤ WRITTEN_LIMIT

-- the text stands under the name, if there is one
abbrev pub IsStored : Option (List ℕ) → ShelfSeen → Problem → Answer → Type 0
IsStored None shelf problem answer = Unit {0}
IsStored (Some name) shelf problem answer = (bytes : List ℕ) × IsCertificateText problem answer bytes × (shelf.told ≡ true → shelf.file name ≡ Some bytes)

-- the certificate of such an answer is too long to be written
pub record IsTooLargeToWrite (problem : Problem) : Type 0 where
  pub answer : Answer
  pub certificate : Certificate
  pub is : IsCertified problem answer certificate
  pub long : WRITTEN_LIMIT < length (closed_text certificate)

-- the certificate of such an answer is to be stored under the name, if there is one, and can't be
pub record FromStore (file : Option (List ℕ)) (old new : ShelfSeen) (problem : Problem) (refusal : Refusal) : Type 0 where
  pub answer : Answer
  pub certificate : Certificate
  pub is : IsCertified problem answer certificate
  pub unkept : FromKeeping old new file certificate refusal

-- ---- checked
-- nothing speaks against a certificate for a problem, and its answer holds
pub record IsBelieved (problem : Problem) (c : Certificate) : Type 0 where
  pub problem_is : IsProblem problem
  pub accepted : IsAccepted problem c
  pub holds : IsDecided problem (answer_of problem c.shown)

-- such a certificate is in a file
pub record IsBelievedFile (shelf : ShelfSeen) (problem : Problem) (name : List ℕ) (c : Certificate) : Type 0 where
  pub bytes : List ℕ
  pub held : IsCertificateFile shelf name bytes
  pub reads : IsText c bytes
  pub believed : IsBelieved problem c

-- this speaks against the certificate in a file, and nothing before it
pub record IsRefusedFile (shelf : ShelfSeen) (problem : Problem) (name : List ℕ) (fault : CheckRefused) : Type 0 where
  pub problem_is : IsProblem problem
  pub bytes : List ℕ
  pub held : IsCertificateFile shelf name bytes
  pub certificate : Certificate
  pub reads : IsText certificate bytes
  pub refusal : IsRefusal problem certificate fault

-- a file is the cause: it has no certificate, or isn't believed
abbrev pub FromFile : (List ℕ → ℕ → Type 0) → (CheckRefused → Type 0) → ShelfSeen → ShelfSeen → Problem → List ℕ → Refusal → Type 0
FromFile IsBad IsAgainst old new problem name (NotAccepted fault terms) = IsCalm old new × (terms ≡ length problem.vector) × IsAgainst fault
FromFile IsBad IsAgainst old new problem name refusal = FromLines IsBad old new name refusal

-- the certificate's file is
abbrev pub FromCertificate : ShelfSeen → ShelfSeen → Problem → List ℕ → Refusal → Type 0
FromCertificate old new problem name refusal = FromFile (IsBadLine certificates) (IsRefusedFile old problem name) old new problem name refusal
