use Rattle.std.proofs.Common.{length}
use Rattle.wi_script.specs.private.Meaning.{AreEvents}
use Rattle.wi_script.proofs.read.more_lines.Given as goal

abbrev pub invariant-loop-left : goal.invariant-loop-left
invariant-loop-left l = AreEvents l.net l.initial.left l.events.items l.left

abbrev pub decreases-loop-left : goal.decreases-loop-left
decreases-loop-left l = length l.left
