use Rattle.std.proofs.Common.{reverse}
use Rattle.wi_check.specs.private.Stages.{AreChecked}
use Rattle.wi_check.proofs.tree.check_nodes.Given as goal

abbrev pub invariant-loop-place : goal.invariant-loop-place
invariant-loop-place l = AreChecked l.problem l.tree l.place (reverse l.left.items)
