use Rattle.std.proofs.Common.{◌≡◌, ◌++◌, drop}
use Rattle.wi_bypass.specs.private.Marks.{unmarked}
use Rattle.wi_bypass.proofs.marks.unmarked.Given as goal

abbrev pub invariant-loop-link : goal.invariant-loop-link
invariant-loop-link l = l.left.items ++ unmarked l.marks (drop l.link-index l.links) ≡ unmarked l.marks l.links
