use Rattle.std.proofs.Common.{◌≡◌, ◌+◌, ◌≤◌, length}
use Rattle.wi_protect.specs.private.Detours.{round_by}
use Rattle.wi_protect.specs.private.Held.{rows_at}
use Rattle.wi_protect.specs.private.Adding.{CanAdd, with_rows}
use Rattle.wi_protect.proofs.rows.add_from.Given as goal

abbrev pub invariant-loop-link : goal.invariant-loop-link
invariant-loop-link l = record {
  can : CanAdd l.builder (rows_at (round_by l.bypasses l.detours) l.number l.left);
  all : with_rows l.builder (rows_at (round_by l.bypasses l.detours) l.number l.left) ≡ with_rows l.fn.builder (rows_at (round_by l.bypasses l.detours) l.fn.number l.links);
  room : l.number + length l.left ≤ 20001;
}

abbrev pub decreases-loop-link : goal.decreases-loop-link
decreases-loop-link l = length l.left
