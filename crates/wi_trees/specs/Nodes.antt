-- Trees of branches, node by node.
use Rattle.std.specs.Prelude.{List, [], ◌∷◌, Option, Some, None}
use Rattle.wi_net.specs.declared.parts.LinkId.{LinkId}
use Rattle.wi_net.specs.declared.bounds.Bounds.{Bounds}
use Rattle.wi_net.specs.Net.{Net}
use Rattle.wi_trees.specs.Branches.{CanSplit, with_down, with_up}

-- nodes in preorder of trees, one tree for each branch of a list: a node is a leaf, or the link of a split; each split is one,
-- and of the branch of each leaf something is so
abbrev pub AreNodes : (Bounds → Type 0) → Net → List (Option LinkId) → List Bounds → Type 0
AreNodes AtLeaf net [] [] = Unit {0}
AreNodes AtLeaf net [] (branch ∷ left) = ⊥
AreNodes AtLeaf net (first ∷ nodes) [] = ⊥
AreNodes AtLeaf net (None ∷ nodes) (branch ∷ left) = AtLeaf branch × AreNodes AtLeaf net nodes left
AreNodes AtLeaf net (Some e ∷ nodes) (branch ∷ left) =
    CanSplit net branch e × AreNodes AtLeaf net nodes (with_down net branch e ∷ with_up net branch e ∷ left)
