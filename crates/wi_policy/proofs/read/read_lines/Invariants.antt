use Rattle.std.proofs.Common.{length}
use Rattle.wi_policy.specs.private.Walking.{Walked}
use Rattle.wi_policy.proofs.read.read_lines.Given as goal

abbrev pub invariant-loop-line : goal.invariant-loop-line
invariant-loop-line l = Walked l.net l.given l.bytes l.policies.items l.left l.number

abbrev pub decreases-loop-line : goal.decreases-loop-line
decreases-loop-line l = length l.left
