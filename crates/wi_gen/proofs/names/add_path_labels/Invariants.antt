-- The first of these labels are there.
use Rattle.std.proofs.Common.{◌≡◌}
use Rattle.wi_gen.specs.private.Making.{path_labels}
use Rattle.wi_gen.proofs.names.add_path_labels.Given as goal

abbrev pub invariant-loop-i : goal.invariant-loop-i
invariant-loop-i l = l.builder ≡ path_labels l.ring l.i
