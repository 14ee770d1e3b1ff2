use Rattle.std.proofs.Common.{◌≡◌, ◌++◌, drop, take}
use Rattle.std.specs.List.{All}
use Rattle.wi_cert.specs.Trees.{HasNodeRanges}
use Rattle.wi_cert.proofs.TreeWritingLemmas.{nodes_text}
use Rattle.wi_cert.proofs.tree_writer.put_nodes.Given as goal

abbrev pub invariant-loop-node : goal.invariant-loop-node
invariant-loop-node l = record {
  text : l.out.items ++ nodes_text (drop l.node-index l.nodes) ≡ l.initial.out.items ++ nodes_text l.nodes;
  ranges : All (λ x. HasNodeRanges x) (take l.node-index l.nodes);
}
