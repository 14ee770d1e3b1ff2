use Rattle.wi_query.specs.Meaning.{question_of}
use Rattle.wi_quantity.specs.Weighing.{weight_of}
use Rattle.wi_trees.specs.Trees.{NoRunBelow}
use Rattle.wi_trees.proofs.NodeLaws.{length_preorder, nodes_tree, tree_nodes}
use Rattle.wi_trees.proofs.laws.nodes_are_a_tree.Goals as goal

pub returns : goal.returns
returns c = record {
  tree = λ net query vector bound nodes branch h.
      nodes_tree (NoRunBelow net (question_of query) (weight_of net vector) bound) net nodes branch h;
  nodes = λ net query vector bound branch tree h.
      tree_nodes (NoRunBelow net (question_of query) (weight_of net vector) bound) net branch tree h;
  count = length_preorder;
}
