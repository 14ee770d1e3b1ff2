-- How far a certificate, or a tree, has been checked.
use Rattle.std.specs.Prelude.{◌≡◌, ℕ, ◌+◌, ◌*◌, ◌<◌, true, List, ◌∷◌, drop, length}
use Rattle.std.specs.List.{All}
use Rattle.wi_net.specs.declared.bounds.Bounds.{Bounds}
use Rattle.wi_build.specs.Problems.{Problem, within}
use Rattle.wi_cert.specs.declared.shown.Shown.{Shown}
use Rattle.wi_cert.specs.declared.closed.Closed.{Closed}
use Rattle.wi_cert.specs.declared.tree.Node.{Node}
use Rattle.wi_cert.specs.declared.tree.Node.TheVariants as node
use Rattle.wi_cert.specs.declared.tree.TreeCertificate.{TreeCertificate}
use Rattle.wi_cert.specs.declared.check_refused.CheckRefused.{CheckRefused}
use Rattle.wi_cert.specs.declared.check_refused.CheckRefused.TheVariants.{BadSplit, Leaf, Memory}
use Rattle.wi_cert.specs.declared.check_refused.ClosedRefused.{ClosedRefused}
use Rattle.wi_cert.specs.Trees.{makes_trees}
use Rattle.wi_trees.specs.Branches.{IsBranch, CanSplit, with_down, with_up}
use Rattle.wi_accept.specs.Causes.{IsShownCause, IsClosedCause, IsToldFirst, bound_of, closed_place, place}
use Rattle.wi_accept.specs.Trees.{link_of, branched, branches_of, IsTreeCause}
use Rattle.wi_check.specs.declared.bounded.Gap.{Gap}
use Rattle.wi_check.specs.declared.bounded.Gap.TheVariants as gap

-- no cause against what is shown is told before those of a place in the order
abbrev pub NoneShown : Problem → Shown → ℕ → Type 0
NoneShown problem s n = (r : CheckRefused) → place r < n → IsShownCause problem s r → ⊥

-- what is shown is refused for the first cause
abbrev pub IsShownRefused : Problem → Shown → CheckRefused → Type 0
IsShownRefused problem s r = IsToldFirst (IsShownCause problem s) r

-- a cause against heads, pairs and rows, under what is shown
abbrev pub IsClosedCauseUnder : Problem → Shown → Closed → ClosedRefused → Type 0
IsClosedCauseUnder problem s c r = IsClosedCause problem s.terms (bound_of s) c r

-- none is told before those of a place in the order
abbrev pub NoneClosed : Problem → Shown → Closed → ℕ → Type 0
NoneClosed problem s c n = (r : ClosedRefused) → closed_place r < n → IsClosedCauseUnder problem s c r → ⊥

-- the first of them is told; want of memory may be, too
pub record IsFirstClosed (problem : Problem) (s : Shown) (c : Closed) (r : ClosedRefused) : Type 0 where
  pub cause : IsClosedCauseUnder problem s c r
  pub first : NoneClosed problem s c (closed_place r)

abbrev pub IsGap : Problem → Shown → Closed → Gap → Type 0
IsGap problem s c (gap.Closed r) = IsFirstClosed problem s c r
IsGap problem s c gap.Memory = Unit {0}

-- no cause against a tree is told before those of a place in the order
abbrev pub NoneInTree : Problem → TreeCertificate → ℕ → Type 0
NoneInTree problem t n = (r : CheckRefused) → place r < n → IsTreeCause problem t r → ⊥

-- so many nodes of a tree were checked, and these branches are left, the next one first: what is left of the nodes are those of
-- trees of them, and nothing speaks against the nodes before
pub record AreChecked (problem : Problem) (t : TreeCertificate) (n : ℕ) (left : List Bounds) : Type 0 where
  pub rest : drop n (branches_of problem t) ≡ branched problem.net left (drop n t.nodes)
  pub whole : makes_trees (length left) (drop n t.nodes) ≡ true
  pub parts : All (IsBranch problem.net problem.bounds) left
  pub none : NoneInTree problem t (9 + 3 * n)

-- nothing speaks against a node of a branch, and these branches are left, the children of a split first
abbrev pub IsNodeChecked : Problem → Shown → Bounds → Node → List Bounds → List Bounds → Type 0
IsNodeChecked problem s branch (node.Split e) old new =
    CanSplit problem.net branch (link_of e) × (new ≡ with_down problem.net branch (link_of e) ∷ with_up problem.net branch (link_of e) ∷ old)
IsNodeChecked problem s branch (node.Closed c) old new = NoneClosed (within problem branch) s c 3 × (new ≡ old)

-- what speaks against node n, first
abbrev pub IsNodeRefused : Problem → Shown → Bounds → Node → ℕ → CheckRefused → Type 0
IsNodeRefused problem s branch (node.Split e) n (BadSplit m) = (m ≡ n) × (CanSplit problem.net branch (link_of e) → ⊥)
IsNodeRefused problem s branch (node.Closed c) n (Leaf m r) = (m ≡ n) × IsFirstClosed (within problem branch) s c r
IsNodeRefused problem s branch x n Memory = Unit {0}
IsNodeRefused problem s branch x n r = ⊥
