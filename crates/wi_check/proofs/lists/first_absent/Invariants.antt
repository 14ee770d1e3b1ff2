use Rattle.std.proofs.Common.{◌≡◌, ◌+◌, length}
use Rattle.wi_check.specs.private.Lists.{Rises, symbol_below, first_absent}
use Rattle.wi_check.proofs.lists.first_absent.Given as goal

abbrev pub invariant-loop-first : goal.invariant-loop-first
invariant-loop-first g l = record {
  same : first_absent l.left l.after ≡ first_absent l.wanted l.listed;
  left : Rises symbol_below l.left;
  after : Rises symbol_below l.after;
}

abbrev pub decreases-loop-first : goal.decreases-loop-first
decreases-loop-first g l = length l.left + length l.after
