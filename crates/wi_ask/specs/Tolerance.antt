-- How many failures it takes: the report on what texts ask of a network and why there is none, and the two trees as they are stored.
use Rattle.std.specs.Prelude.{◌≡◌, ℕ, ◌<◌, ◌≤◌, List, length, Option, None}
use Rattle.wi_base.specs.Shelf.{ShelfSeen}
use Rattle.wi_build.specs.Problems.{Problem, allowing}
use Rattle.wi_cert.specs.declared.tree.TheConstants.{NODE_LIMIT}
use Rattle.wi_cert.specs.declared.tree.TreeCertificate.{TreeCertificate}
use Rattle.wi_branch.specs.Tolerance.{IsTolerated, TellsTolerance}
use Rattle.wi_branch.specs.declared.tolerance.Tolerance.{Tolerance}
use Rattle.wi_branch.specs.declared.tolerance.Tolerance.TheVariants.{At, NoneUpTo}
use Rattle.wi_report.specs.Tolerances.{none_up_to_text, tolerance_report_of}
use Rattle.wi_outcome.specs.declared.refusal.Refusal.{Refusal}
use Rattle.wi_files.specs.Certificates.{AreTreesStored, FromKeepingTrees, IsOneLarge}
use Rattle.wi_ask.specs.Exact.{EndsBySplitting, FromSplitting}

-- ---- told
-- it is told how many failures it takes, if they are at most so many, by trees of at most 10,000 nodes
abbrev pub IsTold : Problem → ℕ → Tolerance → Type 0
IsTold problem most found = TellsTolerance (allowing problem) most NODE_LIMIT found

-- the exit status, and what is printed
abbrev pub tolerance_status : Tolerance → ℕ
tolerance_status (At k answer tree below) = 0
tolerance_status (NoneUpTo tree) = 1

abbrev pub tolerance_text : Problem → ℕ → Tolerance → List ℕ
tolerance_text problem most (At k answer tree below) = tolerance_report_of problem.net (allowing problem k).bounds (length problem.vector) k answer (length tree.nodes)
tolerance_text problem most (NoneUpTo tree) = none_up_to_text most

-- the tree of the answer that is told, and that of one failure fewer, if there is one
abbrev pub first_tree : Tolerance → TreeCertificate
first_tree (At k answer tree below) = tree
first_tree (NoneUpTo tree) = tree

abbrev pub second_tree : Tolerance → Option TreeCertificate
second_tree (At k answer tree below) = below
second_tree (NoneUpTo tree) = None

-- what is printed where it is told, with its status; the trees stand under the name and the one made from it, if there is one
pub record IsToldWith (problem : Problem) (most : ℕ) (file : Option (List ℕ)) (old new : ShelfSeen) (status : ℕ) (text : List ℕ) : Type 0 where
  pub found : Tolerance
  pub told : IsTold problem most found
  pub stored : AreTreesStored file old new (first_tree found) (second_tree found)
  pub status_is : status ≡ tolerance_status found
  pub text_is : text ≡ tolerance_text problem most found

-- ---- not told
-- at a number up to so many this is so, and each smaller number is fewer than it takes
abbrev pub AtFirst : Problem → ℕ → (Problem → Type 0) → Type 0
AtFirst problem most P = (k : ℕ) × (k ≤ most) × ((j : ℕ) → j < k → IsTolerated (allowing problem) j) × P (allowing problem k)

-- there is no exact answer there
abbrev pub FromTolerating : ℕ → Problem → Refusal → Type 0
FromTolerating most problem refusal = AtFirst problem most (λ asked. FromSplitting asked refusal)

-- with what status it then ends
abbrev pub EndsByTolerating : Problem → ℕ → ℕ → Type 0
EndsByTolerating problem most status = AtFirst problem most (λ asked. EndsBySplitting asked status)

-- ---- not stored
pub record AreTreesTooLarge (problem : Problem) (most : ℕ) : Type 0 where
  pub found : Tolerance
  pub told : IsTold problem most found
  pub large : IsOneLarge (first_tree found) (second_tree found)

pub record FromTreesStore (most : ℕ) (file : Option (List ℕ)) (old new : ShelfSeen) (problem : Problem) (refusal : Refusal) : Type 0 where
  pub found : Tolerance
  pub told : IsTold problem most found
  pub unstored : FromKeepingTrees old new file (first_tree found) (second_tree found) refusal
