use Rattle.std.proofs.Common.{◌≡◌, ◌+◌, ◌-◌, ◌≤◌, length}
use Rattle.wi_protect.specs.Rows.{via_rows}
use Rattle.wi_protect.specs.private.Adding.{CanAdd, with_rows}
use Rattle.wi_protect.proofs.rows.add_via.Given as goal

abbrev pub invariant-loop-link : goal.invariant-loop-link
invariant-loop-link l = record {
  can : CanAdd l.builder (via_rows l.number l.left);
  all : with_rows l.builder (via_rows l.number l.left) ≡ with_rows l.fn.builder (via_rows l.fn.number l.via);
  room : l.number + (length l.left - 1) ≤ 20000;
}

abbrev pub decreases-loop-link : goal.decreases-loop-link
decreases-loop-link l = length l.left
