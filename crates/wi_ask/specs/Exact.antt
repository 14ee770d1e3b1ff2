-- Exact answers: the report on what texts ask of a network and why there is none, and the tree as it is stored and as it is checked.
use Rattle.std.specs.Prelude.{◌≡◌, ℕ, List, length, Option}
use Rattle.wi_base.specs.Shelf.{ShelfSeen}
use Rattle.wi_trace.specs.declared.answer.Answer.{Answer}
use Rattle.wi_build.specs.Problems.{Problem, IsProblem}
use Rattle.wi_cert.specs.declared.tree.TheConstants.{NODE_LIMIT}
use Rattle.wi_cert.specs.declared.tree.TreeCertificate.{TreeCertificate}
use Rattle.wi_cert.specs.declared.check_refused.CheckRefused.{CheckRefused}
use Rattle.wi_cert.specs.Text.{IsBadLine}
use Rattle.wi_cert.specs.Trees.{IsTreeText, trees}
use Rattle.wi_accept.specs.Answers.{answer_of}
use Rattle.wi_accept.specs.Trees.{IsDecidedExactly, IsTreeAccepted, IsTreeRefusal}
use Rattle.wi_branch.specs.declared.refused.AnswerRefused.{AnswerRefused}
use Rattle.wi_branch.specs.declared.refused.AnswerRefused.TheVariants as none
use Rattle.wi_branch.specs.Exactly.{IsAnswerRefused, IsExact}
use Rattle.wi_report.specs.Reports.{exact_report_of}
use Rattle.wi_outcome.specs.declared.refusal.Refusal.{Refusal}
use Rattle.wi_outcome.specs.declared.refusal.Refusal.TheVariants.{ManyNodes, Memory, Overflow, TooLong}
use Rattle.wi_files.specs.Certificates.{IsCertificateFile, IsLarge, FromKeepingTree, IsTreeStored}
use Rattle.wi_ask.specs.Certificates.{FromFile}
use Rattle.wi_ask.specs.Decided.{status_for}

-- ---- answered
-- an answer to a problem that holds without doubt, with the tree of at most 10,000 nodes that shows it; nothing speaks against that
pub record IsShownExactly (problem : Problem) (answer : Answer) (tree : TreeCertificate) : Type 0 where
  pub problem_is : IsProblem problem
  pub exact : IsExact problem NODE_LIMIT answer tree
  pub accepted : IsTreeAccepted problem tree

-- the report on such an answer, with its status; its tree stands under the name, if there is one
pub record IsReportedExactly (problem : Problem) (file : Option (List ℕ)) (shelf : ShelfSeen) (status : ℕ) (text : List ℕ) : Type 0 where
  pub answer : Answer
  pub tree : TreeCertificate
  pub is : IsShownExactly problem answer tree
  pub stored : IsTreeStored file shelf tree
  pub status_is : status ≡ status_for answer.word
  pub text_is : text ≡ exact_report_of problem.net problem.bounds (length problem.vector) answer (length tree.nodes)

-- at the branch that is next a summary's weight doesn't fit, or else the least run is too long; or it would be one node too many
abbrev pub FromSplitting : Problem → Refusal → Type 0
FromSplitting problem (Overflow w terms) =
    (terms ≡ length problem.vector) × ((head : ℕ × ℕ) × (target : ℕ) × IsAnswerRefused problem NODE_LIMIT (none.Overflow (record { head = head; target = target; weight = w })))
FromSplitting problem (TooLong effort) = IsAnswerRefused problem NODE_LIMIT (none.TooLong effort)
FromSplitting problem ManyNodes = IsAnswerRefused problem NODE_LIMIT none.NodeLimit
FromSplitting problem Memory = Unit {0}
FromSplitting problem refusal = ⊥

-- the status with which it then ends
abbrev pub status_without : AnswerRefused → ℕ
status_without (none.Overflow o) = 6
status_without (none.TooLong effort) = 7
status_without none.NodeLimit = 13
status_without none.Memory = 11

abbrev pub EndsBySplitting : Problem → ℕ → Type 0
EndsBySplitting problem status = (refused : AnswerRefused) × IsAnswerRefused problem NODE_LIMIT refused × (status ≡ status_without refused)

-- an exact answer is shown by such a tree
pub record IsTreeTooLarge (problem : Problem) : Type 0 where
  pub answer : Answer
  pub tree : TreeCertificate
  pub is : IsShownExactly problem answer tree
  pub large : IsLarge tree

-- the tree of an exact answer is to be stored under the name, if there is one, and can't be
pub record FromTreeStore (file : Option (List ℕ)) (old new : ShelfSeen) (problem : Problem) (refusal : Refusal) : Type 0 where
  pub answer : Answer
  pub tree : TreeCertificate
  pub is : IsShownExactly problem answer tree
  pub unkept : FromKeepingTree old new file tree refusal

-- ---- checked
-- nothing speaks against a tree for a problem, and its answer holds without doubt
pub record IsTreeBelieved (problem : Problem) (t : TreeCertificate) : Type 0 where
  pub problem_is : IsProblem problem
  pub accepted : IsTreeAccepted problem t
  pub holds : IsDecidedExactly problem (answer_of problem t.shown)

-- such a tree is in a file
pub record IsBelievedTreeFile (shelf : ShelfSeen) (problem : Problem) (name : List ℕ) (t : TreeCertificate) : Type 0 where
  pub bytes : List ℕ
  pub held : IsCertificateFile shelf name bytes
  pub reads : IsTreeText t bytes
  pub believed : IsTreeBelieved problem t

-- this speaks against the tree in a file, and nothing before it
pub record IsRefusedTree (shelf : ShelfSeen) (problem : Problem) (name : List ℕ) (fault : CheckRefused) : Type 0 where
  pub problem_is : IsProblem problem
  pub bytes : List ℕ
  pub held : IsCertificateFile shelf name bytes
  pub tree : TreeCertificate
  pub reads : IsTreeText tree bytes
  pub refusal : IsTreeRefusal problem tree fault

-- the tree's file is the cause
abbrev pub FromTree : ShelfSeen → ShelfSeen → Problem → List ℕ → Refusal → Type 0
FromTree old new problem name refusal = FromFile (IsBadLine trees) (IsRefusedTree old problem name) old new problem name refusal
