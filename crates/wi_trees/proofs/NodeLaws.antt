-- Nodes in preorder are those of trees, one for each branch.
use Rattle.std.proofs.Common.{◌≡◌, List, [], ◌∷◌, ◌++◌, length, Option, Some, None, refl, arith, ap, sym, ◌∙◌, append_assoc, append-nil, length-append}
use Rattle.wi_net.specs.declared.parts.LinkId.{LinkId}
use Rattle.wi_net.specs.declared.bounds.Bounds.{Bounds}
use Rattle.wi_net.specs.Net.{Net}
use Rattle.wi_trees.specs.Branches.{with_down, with_up}
use Rattle.wi_trees.specs.Trees.{Tree, closed, split, preorder, size, TreeOf}
use Rattle.wi_trees.specs.Nodes.{AreNodes}

-- a tree has as many nodes as its preorder
pub length_preorder : (tree : Tree) → length (preorder tree) ≡ size tree
length_preorder closed = refl
length_preorder (split e down up) =
    let first = length_preorder down in
    let second = length_preorder up in
    omega (arith, first, second, length-append (preorder down) (preorder up))

after : {ns ms : List (Option LinkId)} (n : Option LinkId) → ns ≡ ms → n ∷ ns ≡ n ∷ ms
after n same = ap (λ (x : List (Option LinkId)). n ∷ x) same

module _ (AtLeaf : Bounds → Type 0) (net : Net) where
  -- trees of branches, one for each
  abbrev pub AreTrees : List Bounds → Type 0
  AreTrees [] = Unit {0}
  AreTrees (branch ∷ left) = ((tree : Tree) × TreeOf AtLeaf net branch tree) × AreTrees left

  -- their nodes in preorder
  abbrev pub nodes_in : (left : List Bounds) → AreTrees left → List (Option LinkId)
  nodes_in [] trees = []
  nodes_in (branch ∷ left) trees = preorder trees.0.0 ++ nodes_in left trees.1

  pub nodes_trees : (nodes : List (Option LinkId)) (left : List Bounds) → AreNodes AtLeaf net nodes left
      → (trees : AreTrees left) × (nodes_in left trees ≡ nodes)
  nodes_trees [] [] h = (tt, refl)
  nodes_trees [] (branch ∷ left) h = absurd h
  nodes_trees (n ∷ nodes) [] h = absurd h
  nodes_trees (None ∷ nodes) (branch ∷ left) h =
      let t = nodes_trees nodes left h.1 in
      (((closed, h.0), t.0), after None t.1)
  nodes_trees (Some e ∷ nodes) (branch ∷ left) h =
      let t = nodes_trees nodes (with_down net branch e ∷ with_up net branch e ∷ left) h.1 in
      let down = t.0.0 in
      let up = t.0.1.0 in
      let rest = t.0.1.1 in
      let same = append_assoc (preorder down.0) (preorder up.0) (nodes_in left rest) ∙ t.1 in
      (((split e down.0 up.0, (h.0, down.1, up.1)), rest), after (Some e) same)

  -- the nodes of one tree
  pub nodes_tree : (nodes : List (Option LinkId)) (branch : Bounds) → AreNodes AtLeaf net nodes (branch ∷ [])
      → (tree : Tree) × TreeOf AtLeaf net branch tree × (preorder tree ≡ nodes)
  nodes_tree nodes branch h =
      let t = nodes_trees nodes (branch ∷ []) h in
      (t.0.0.0, t.0.0.1, sym (append-nil (preorder t.0.0.0)) ∙ t.1)

  -- a tree's nodes before those of others
  pub tree_then : (branch : Bounds) (tree : Tree) (nodes : List (Option LinkId)) (left : List Bounds)
      → TreeOf AtLeaf net branch tree → AreNodes AtLeaf net nodes left
      → AreNodes AtLeaf net (preorder tree ++ nodes) (branch ∷ left)
  tree_then branch closed nodes left t h = (t, h)
  tree_then branch (split e down up) nodes left t h =
      let second = tree_then (with_up net branch e) up nodes left t.2 h in
      let first = tree_then (with_down net branch e) down (preorder up ++ nodes) (with_up net branch e ∷ left) t.1 second in
      (t.0, rw (append_assoc (preorder down) (preorder up) nodes) first)

  pub tree_nodes : (branch : Bounds) (tree : Tree) → TreeOf AtLeaf net branch tree
      → AreNodes AtLeaf net (preorder tree) (branch ∷ [])
  tree_nodes branch tree t =
      let nodes = tree_then branch tree [] [] t tt in
      rw append-nil at nodes
