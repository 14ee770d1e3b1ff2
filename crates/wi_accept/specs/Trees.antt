-- Why a tree isn't believed, and the tree that a maker writes: a certificate's causes, where each leaf is judged within its branch.
use Rattle.std.specs.Prelude.{◌≡◌, ℕ, ◌-◌, ◌<◌, List, [], ◌∷◌, length, slice_get, Option, Some, option_map, is_some}
use Rattle.std.specs.List.{All}
use Rattle.wi_net.specs.Net.{Net}
use Rattle.wi_net.specs.declared.bounds.Bounds.{Bounds}
use Rattle.wi_net.specs.declared.parts.LinkId.{LinkId}
use Rattle.wi_trace.specs.declared.answer.Answer.{Answer}
use Rattle.wi_quantity.specs.Weighing.{components}
use Rattle.wi_build.specs.Problems.{Problem, asks, weighs, within}
use Rattle.wi_cert.specs.declared.closed.Closed.{Closed}
use Rattle.wi_cert.specs.declared.tree.Node.{Node}
use Rattle.wi_cert.specs.declared.tree.Node.TheVariants as node
use Rattle.wi_cert.specs.declared.tree.TreeCertificate.{TreeCertificate}
use Rattle.wi_cert.specs.declared.check_refused.CheckRefused.{CheckRefused}
use Rattle.wi_cert.specs.declared.check_refused.CheckRefused.TheVariants.{BadSplit, Leaf}
use Rattle.wi_cert.specs.Trees.{IsTreeWritable}
use Rattle.wi_trees.specs.Branches.{CanSplit, with_down, with_up}
use Rattle.wi_trees.specs.Trees.{NoRunBelow, HoldsExactly}
use Rattle.wi_accept.specs.Answers.{answer_of}
use Rattle.wi_accept.specs.Causes.{bound_of, IsShownCause, IsClosedCause, IsFirstCause, IsToldFirst, HasNone}
use Rattle.wi_accept.specs.Makers.{AreLeast}

abbrev pub link_of : ℕ → LinkId
link_of e = record { 0 = e }

-- nodes in preorder, each with its branch, where these branches are left
abbrev pub branched : Net → List Bounds → List Node → List (Bounds × Node)
branched net left [] = []
branched net [] (n ∷ nodes) = []
branched net (branch ∷ left) (node.Split e ∷ nodes) =
    (branch, node.Split e) ∷ branched net (with_down net branch (link_of e) ∷ with_up net branch (link_of e) ∷ left) nodes
branched net (branch ∷ left) (node.Closed c ∷ nodes) = (branch, node.Closed c) ∷ branched net left nodes

-- a tree's nodes, each with its branch
abbrev pub branches_of : Problem → TreeCertificate → List (Bounds × Node)
branches_of problem t = branched problem.net (problem.bounds ∷ []) t.nodes

-- node n of a tree, from 1, is this, and this its branch
abbrev pub IsNode : Problem → TreeCertificate → ℕ → Bounds → Node → Type 0
IsNode problem t n branch what = (0 < n) × (slice_get (branches_of problem t) (n - 1) ≡ Some (branch, what))

-- a cause for which a tree isn't believed
abbrev pub IsTreeCause : Problem → TreeCertificate → CheckRefused → Type 0
IsTreeCause problem t (BadSplit n) =
    (branch : Bounds) × (e : ℕ) × IsNode problem t n branch (node.Split e) × (CanSplit problem.net branch (link_of e) → ⊥)
IsTreeCause problem t (Leaf n r) =
    (branch : Bounds) × (c : Closed) × IsNode problem t n branch (node.Closed c)
    × IsClosedCause (within problem branch) t.shown.terms (bound_of t.shown) c r
IsTreeCause problem t r = IsShownCause problem t.shown r

-- a tree is refused for the first cause, or there is none, and it is accepted
abbrev pub IsTreeRefusal : Problem → TreeCertificate → CheckRefused → Type 0
IsTreeRefusal problem t r = IsFirstCause (IsTreeCause problem t) r

abbrev pub IsTreeRefused : Problem → TreeCertificate → CheckRefused → Type 0
IsTreeRefused problem t r = IsToldFirst (IsTreeCause problem t) r

abbrev pub IsTreeAccepted : Problem → TreeCertificate → Type 0
IsTreeAccepted problem t = HasNone (IsTreeCause problem t)

-- an answer to a problem holds without doubt
abbrev pub IsDecidedExactly : Problem → Answer → Type 0
IsDecidedExactly problem a = HoldsExactly problem.net (asks problem) (weighs problem) a.word (option_map components a.weight) a.run a.verdict

-- what a maker writes for a node: a split is one, and a leaf has the least of what bounds its branch, where no run is below the bound
abbrev pub IsMadeAt : Problem → ℕ → Option (List ℕ) → Bounds → Node → Type 0
IsMadeAt problem terms bound branch (node.Split e) = CanSplit problem.net branch (link_of e)
IsMadeAt problem terms bound branch (node.Closed c) =
    NoRunBelow problem.net (asks problem) (weighs problem) bound branch × AreLeast (within problem branch) terms bound c

-- The tree can be written, is about packets that are dropped exactly where these are asked for, shows the answer with as many terms as
-- are asked for, and each of its nodes is one that a maker writes.
pub record IsTreeMaker (problem : Problem) (answer : Answer) (t : TreeCertificate) : Type 0 where
  pub writable : IsTreeWritable t
  pub about : is_some t.shown.dropped ≡ (asks problem).drops
  pub terms : t.shown.terms ≡ length problem.vector
  pub shows : answer_of problem t.shown ≡ answer
  pub nodes : All (λ x. IsMadeAt problem t.shown.terms (bound_of t.shown) x.0 x.1) (branches_of problem t)
