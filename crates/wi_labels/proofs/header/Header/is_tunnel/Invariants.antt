use Rattle.std.proofs.Common.{◌≡◌, drop}
use Rattle.wi_labels.specs.Header.{is_tunnel}
use Rattle.wi_labels.proofs.header.Header.is_tunnel.Given as goal

abbrev pub invariant-loop-i : goal.invariant-loop-i
invariant-loop-i l = is_tunnel (drop l.i l.self) ≡ is_tunnel l.fn.self
