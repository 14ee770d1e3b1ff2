-- How many failures it takes: from the parts of the command to the whole.
use Rattle.std.proofs.Common.{◌≡◌, ℕ, zero, suc, List, Option, Some, None, Result, Ok, Err, inl, inr, refl, sym, ◌∙◌}
use Rattle.std.specs.Prelude.{IfErr, IfOk, IfSome}
use Rattle.wi_base.specs.declared.shelf.CallKind.TheVariants.{Store}
use Rattle.wi_base.specs.Shelf.{ShelfSeen}
use Rattle.wi_build.specs.Problems.{Problem, allowing}
use Rattle.wi_cert.specs.declared.tree.TreeCertificate.{TreeCertificate}
use Rattle.wi_cert.specs.Trees.{IsTreeWritable}
use Rattle.wi_branch.specs.declared.tolerance.Tolerance.{Tolerance}
use Rattle.wi_branch.specs.declared.tolerance.Tolerance.TheVariants.{At, NoneUpTo}
use Rattle.wi_outcome.specs.declared.printed.Printed.{Printed}
use Rattle.wi_outcome.specs.declared.refusal.Refusal.{Refusal}
use Rattle.wi_outcome.specs.declared.refusal.Refusal.TheVariants.{CannotWrite, CannotWriteBelow, Memory, NoMemoryBelow, TreeNotWritten}
use Rattle.wi_files.specs.Certificates.{AreTreesStored, FromKeepingTrees, IsNamed, IsOneLarge}
use Rattle.wi_files.specs.Shelves.{IsCalm, below_name}
use Rattle.wi_files.proofs.Causes.{longer}
use Rattle.wi_ask.specs.Exact.{EndsBySplitting}
use Rattle.wi_ask.specs.Tolerance.{AreTreesTooLarge, EndsByTolerating, FromTolerating, FromTreesStore, IsTold, IsToldWith, first_tree, second_tree, tolerance_status, tolerance_text}
use Rattle.wi_ask.specs.Wanted.{EndsExactly, FromAnswer}
use Rattle.wi_ask.proofs.Ending.{Ends, ends_as}
use Rattle.wi_ask.proofs.Exactly.{unsplit_due}

-- ---- what is told

-- both trees can be written
pub first_writable : (problem : Problem) (most : ℕ) (found : Tolerance) → IsTold problem most found → IsTreeWritable (first_tree found)
first_writable problem most (At k answer tree below) told = told.2.exact.made.writable
first_writable problem most (NoneUpTo tree) told = told.1.exact.made.writable

pub second_writable : (problem : Problem) (most : ℕ) (found : Tolerance) → IsTold problem most found → IfSome (second_tree found) IsTreeWritable
second_writable problem most (At k answer tree None) told = tt
second_writable problem most (At zero answer tree (Some lower)) told = elim told.3 [ ]
second_writable problem most (At (suc j) answer tree (Some lower)) told = told.3.exact.made.writable
second_writable problem most (NoneUpTo tree) told = tt

-- where it is printed and stored, the command has its answer
pub told_with : (r : Result Printed Refusal) (problem : Problem) (most : ℕ) (file : Option (List ℕ)) (old new : ShelfSeen) (found : Tolerance) → IsTold problem most found
    → IfOk r (λ printed. printed.status ≡ tolerance_status found) → IfOk r (λ printed. printed.text ≡ tolerance_text problem most found) → IfOk r (λ _. AreTreesStored file old new (first_tree found) (second_tree found))
    → IfOk r (λ printed. IsToldWith problem most file old new printed.status printed.text)
told_with (Err refusal) problem most file old new found told status text stored = tt
told_with (Ok printed) problem most file old new found told status text stored = record {
  found = found;
  told = told;
  stored = stored;
  status_is = status;
  text_is = text;
}

pub tolerance_ends : (problem : Problem) (most : ℕ) (file : Option (List ℕ)) (old new : ShelfSeen) (status : ℕ) (text : List ℕ) → IsToldWith problem most file old new status text → EndsExactly status
tolerance_ends problem most file old new status text r = by_word r.found r.status_is
  where
    by_word : (found : Tolerance) → status ≡ tolerance_status found → EndsExactly status
    by_word (At k answer tree below) is = inl is
    by_word (NoneUpTo tree) is = inr is

-- ---- what isn't told

-- the status is that of the cause at the number where it stopped
pub untold_due : (most : ℕ) (problem : Problem) (refusal : Refusal) → FromTolerating most problem refusal → Ends (EndsByTolerating problem most) refusal
untold_due most problem refusal cause =
    ends_as (EndsBySplitting (allowing problem cause.0)) (EndsByTolerating problem most) refusal (λ status ends. (cause.0, cause.1, cause.2, ends)) (unsplit_due (allowing problem cause.0) refusal cause.3)

-- ---- what isn't stored

-- where the trees aren't stored, the cause says so of the trees that were found
pub trees_refused : (r : Result Printed Refusal) (most : ℕ) (file : Option (List ℕ)) (old new : ShelfSeen) (problem : Problem) (found : Tolerance) → IsTold problem most found
    → IfErr r (λ refusal. FromKeepingTrees old new file (first_tree found) (second_tree found) refusal) → IfErr r (λ refusal. FromAnswer (FromTolerating most) (FromTreesStore most file) old new problem refusal)
trees_refused (Ok printed) most file old new problem found told cause = tt
trees_refused (Err refusal) most file old new problem found told cause = inr (record { found = found; told = told; unstored = cause })

unstored_due : (old new : ShelfSeen) (file : Option (List ℕ)) (first : TreeCertificate) (second : Option TreeCertificate) (refusal : Refusal) → IsCalm old new → FromKeepingTrees old new file first second refusal
    → Ends (λ status. (status ≡ 14) × IsNamed file × IsOneLarge first second) refusal
unstored_due old new file first second TreeNotWritten calm cause = (refl, inr (refl, cause.1, cause.2))
unstored_due old new file first second (CannotWrite named said) calm cause = absurd (longer old.failed (Store, named.now) (sym cause.2.1 ∙ calm))
unstored_due old new file first second (CannotWriteBelow named said) calm cause = absurd (longer old.failed (Store, below_name named.now) (sym cause.3.1 ∙ calm))
unstored_due old new file first second (NoMemoryBelow named) calm cause = (refl, inl refl)
unstored_due old new file first second Memory calm cause = (refl, inl refl)
unstored_due old new file first second refusal calm cause = elim cause [ ]

pub trees_due : (most : ℕ) (file : Option (List ℕ)) (old new : ShelfSeen) (problem : Problem) (refusal : Refusal) → IsCalm old new → FromTreesStore most file old new problem refusal
    → Ends (λ status. (status ≡ 14) × IsNamed file × AreTreesTooLarge problem most) refusal
trees_due most file old new problem refusal calm cause =
    ends_as (λ status. (status ≡ 14) × IsNamed file × IsOneLarge (first_tree cause.found) (second_tree cause.found)) (λ status. (status ≡ 14) × IsNamed file × AreTreesTooLarge problem most) refusal
    (λ status due. (due.0, due.1, record { found = cause.found; told = cause.told; large = due.2 }))
    (unstored_due old new file (first_tree cause.found) (second_tree cause.found) refusal calm cause.unstored)
