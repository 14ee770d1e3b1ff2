use Rattle.std.proofs.Common.{◌≡◌, map}
use Rattle.wi_branch.specs.Exactly.{node_under}
use Rattle.wi_branch.proofs.tree.nodes_of.Given as goal

abbrev pub invariant-loop-node : goal.invariant-loop-node
invariant-loop-node l = l.nodes.items ≡ map (node_under l.shown) l.yielded
