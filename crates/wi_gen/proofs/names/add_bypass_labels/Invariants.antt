-- The first of these labels are there.
use Rattle.std.proofs.Common.{◌≡◌}
use Rattle.wi_gen.specs.private.Making.{bypass_labels}
use Rattle.wi_gen.proofs.names.add_bypass_labels.Given as goal

abbrev pub invariant-loop-i : goal.invariant-loop-i
invariant-loop-i l = l.builder ≡ bypass_labels l.ring l.i
