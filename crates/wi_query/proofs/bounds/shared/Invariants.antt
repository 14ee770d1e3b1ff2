-- Those that are left have the first that all have.
use Rattle.std.proofs.Common.{◌≡◌, drop}
use Rattle.wi_query.specs.private.Parts.{shared}
use Rattle.wi_query.proofs.bounds.shared.Given as goal

abbrev pub invariant-loop-i : goal.invariant-loop-i
invariant-loop-i l = shared (drop l.i l.down) l.up ≡ shared l.down l.up
