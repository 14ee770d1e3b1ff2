use Rattle.std.proofs.Common.{◌++◌, ap, ◌∙◌, subst}
use Rattle.std.specs.List.{flat_map}
use Rattle.std.proofs.lemmas.List.Elements.{All-more}
use Rattle.wi_cert.specs.Text.{ended}
use Rattle.wi_cert.specs.Trees.{node_lines, HasNodeRanges}
use Rattle.wi_cert.proofs.WritingLemmas.{all_gone}
use Rattle.wi_cert.proofs.TreeWritingLemmas.{nodes_text, node_more}
use Rattle.wi_cert.proofs.tree_writer.put_nodes.Goals as goal

pub loop-node-preserved : goal.loop-node-preserved
loop-node-preserved c = record {
  text = node_more c.args.nodes.now c.loop-node.node-index c.node-item.result c.loop-node.out.items c.put_node.new.out.items (c.args.out.now.items ++ nodes_text c.args.nodes.now) c.loop-node-test.true
      (c.in_ok-put_node.ensures.text ∙ ap (λ x. c.loop-node.out.items ++ flat_map ended (node_lines x)) c.node-item.is) c.loop-node.invariant.text;
  ranges = All-more HasNodeRanges c.args.nodes.now c.loop-node.node-index c.node-item.result c.loop-node-test.true c.loop-node.invariant.ranges (subst HasNodeRanges c.node-item.is c.in_ok-put_node.ensures.ranges);
}

pub returns-clause-ranges : goal.returns-clause-ranges
returns-clause-ranges c = all_gone HasNodeRanges c.args.nodes.now c.loop-node.node-index c.loop-node-test.false c.loop-node.invariant.ranges
