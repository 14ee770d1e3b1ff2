use Rattle.std.proofs.Common.{◌≡◌, ◌*◌, ◌^◌, ◌≤◌, take}
use Rattle.wi_cert.specs.private.TreeMarks.{nodes_line_count}
use Rattle.wi_cert.proofs.tree_draft.nodes_line_count.Given as goal

abbrev pub invariant-loop-node : goal.invariant-loop-node
invariant-loop-node l = record {
  is : l.count ≡ nodes_line_count (take l.node-index l.nodes);
  small : l.count ≤ l.node-index * 2 ^ 66;
}
