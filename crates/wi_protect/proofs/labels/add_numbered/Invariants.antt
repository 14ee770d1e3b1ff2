use Rattle.std.proofs.Common.{◌≡◌, take}
use Rattle.wi_protect.specs.Labels.{numbered_to}
use Rattle.wi_protect.specs.private.Adding.{with_labels}
use Rattle.wi_protect.proofs.labels.add_numbered.Given as goal

abbrev pub invariant-loop-i : goal.invariant-loop-i
invariant-loop-i l = l.builder ≡ with_labels l.class l.initial.builder (take l.i (numbered_to l.letter l.owner l.count))
