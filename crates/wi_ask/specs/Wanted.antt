-- What is wanted of a problem: how it is given, why it isn't, and with what status it may end.
use Rattle.std.specs.Prelude.{◌≡◌, ◌⊎◌, ℕ, ◌<◌, List, Option, Some}
use Rattle.wi_base.specs.Shelf.{ShelfSeen}
use Rattle.wi_build.specs.Problems.{Problem}
use Rattle.wi_cert.specs.declared.certificate.Certificate.{Certificate}
use Rattle.wi_cert.specs.declared.tree.TreeCertificate.{TreeCertificate}
use Rattle.wi_accept.specs.Answers.{word_of}
use Rattle.wi_report.specs.Reports.{accepted_text}
use Rattle.wi_words.specs.Commands.{Wanted, Verify, Check, Exact, CheckExact, Tolerate}
use Rattle.wi_outcome.specs.declared.refusal.Refusal.{Refusal}
use Rattle.wi_files.specs.Certificates.{IsNamed}
use Rattle.wi_files.specs.Shelves.{IsCalm, IsOfTwo}
use Rattle.wi_ask.specs.Certificates.{FromCertificate, FromStore, IsBelievedFile, IsTooLargeToWrite}
use Rattle.wi_ask.specs.Decided.{EndsByDecision, FromDecision, IsReported}
use Rattle.wi_ask.specs.Exact.{EndsBySplitting, FromSplitting, FromTree, FromTreeStore, IsBelievedTreeFile, IsReportedExactly, IsTreeTooLarge}
use Rattle.wi_ask.specs.Tolerance.{AreTreesTooLarge, EndsByTolerating, FromTolerating, FromTreesStore, IsToldWith}

-- ---- given. Old and new are the shelf before and after
-- what is printed of a problem, with its status: over the files that the shelf holds, and with what it then holds
abbrev pub IsGiven : Wanted → ShelfSeen → ShelfSeen → Problem → ℕ → List ℕ → Type 0
IsGiven (Verify content file) old new problem status text = IsReported content problem file new status text
IsGiven (Check file) old new problem status text = (c : Certificate) × IsBelievedFile old problem file c × (status ≡ 0) × (text ≡ accepted_text (word_of c.shown.claim))
IsGiven (Exact file) old new problem status text = IsReportedExactly problem file new status text
IsGiven (CheckExact file) old new problem status text = (t : TreeCertificate) × IsBelievedTreeFile old problem file t × (status ≡ 0) × (text ≡ accepted_text (word_of t.shown.claim))
IsGiven (Tolerate most file) old new problem status text = IsToldWith problem most file old new status text

-- something may be stored under a name
abbrev pub IsStoredFor : Wanted → List ℕ → Type 0
IsStoredFor (Verify content file) under = file ≡ Some under
IsStoredFor (Exact file) under = file ≡ Some under
IsStoredFor (Tolerate most file) under = IsOfTwo file under
IsStoredFor wanted under = ⊥

-- ---- not given
-- there is no answer that can be shown, or there is one that is to be stored and can't be
abbrev pub FromAnswer : (Problem → Refusal → Type 0) → (ShelfSeen → ShelfSeen → Problem → Refusal → Type 0) → ShelfSeen → ShelfSeen → Problem → Refusal → Type 0
FromAnswer Unshown Unstored old new problem refusal = (Unshown problem refusal × IsCalm old new) ⊎ Unstored old new problem refusal

-- the problem is the cause, or its answer's store; or the file that is held against it
abbrev pub FromWanted : Wanted → ShelfSeen → ShelfSeen → Problem → Refusal → Type 0
FromWanted (Verify content file) old new problem refusal = FromAnswer FromDecision (FromStore file) old new problem refusal
FromWanted (Check file) old new problem refusal = FromCertificate old new problem file refusal
FromWanted (Exact file) old new problem refusal = FromAnswer FromSplitting (FromTreeStore file) old new problem refusal
FromWanted (CheckExact file) old new problem refusal = FromTree old new problem file refusal
FromWanted (Tolerate most file) old new problem refusal = FromAnswer (FromTolerating most) (FromTreesStore most file) old new problem refusal

-- ---- the status
-- what is held against the problem, if anything is, is believed
abbrev pub CanBeGiven : Wanted → ShelfSeen → Problem → Type 0
CanBeGiven (Check file) shelf problem = (c : Certificate) × IsBelievedFile shelf problem file c
CanBeGiven (CheckExact file) shelf problem = (t : TreeCertificate) × IsBelievedTreeFile shelf problem file t
CanBeGiven wanted shelf problem = Unit {0}

-- an exact answer ends with yes or no, and another one with inconclusive, too, where something may fail
abbrev pub EndsExactly : ℕ → Type 0
EndsExactly status = (status ≡ 0) ⊎ (status ≡ 1)

abbrev pub EndsAnswered : Problem → ℕ → Type 0
EndsAnswered problem status = EndsExactly status ⊎ ((status ≡ 2) × (0 < problem.bounds.k))

-- an answer is asked for, and may be stored: it is there, or a refusal is due, or what is to be stored is too large
abbrev pub MayEnd : Type 0 → Type 0 → Type 0 → Option (List ℕ) → ℕ → Type 0
MayEnd Answered Unshown Large file status = Answered ⊎ Unshown ⊎ ((status ≡ 14) × IsNamed file × Large)

-- the statuses with which it may end
abbrev pub IsStatusFor : Wanted → Problem → ℕ → Type 0
IsStatusFor (Verify content file) problem status = MayEnd (EndsAnswered problem status) (EndsByDecision problem status) (IsTooLargeToWrite problem) file status
IsStatusFor (Check file) problem status = status ≡ 0
IsStatusFor (Exact file) problem status = MayEnd (EndsExactly status) (EndsBySplitting problem status) (IsTreeTooLarge problem) file status
IsStatusFor (CheckExact file) problem status = status ≡ 0
IsStatusFor (Tolerate most file) problem status = MayEnd (EndsExactly status) (EndsByTolerating problem most status) (AreTreesTooLarge problem most) file status
