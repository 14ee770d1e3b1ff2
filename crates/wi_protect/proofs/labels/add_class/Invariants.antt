use Rattle.std.proofs.Common.{◌≡◌, take}
use Rattle.wi_protect.specs.Labels.{names_of}
use Rattle.wi_protect.specs.private.Adding.{with_labels}
use Rattle.wi_protect.proofs.labels.add_class.Given as goal

abbrev pub invariant-loop-i : goal.invariant-loop-i
invariant-loop-i l = l.builder ≡ with_labels l.class l.initial.builder (names_of l.class (take l.i l.net.classes) (take l.i l.net.labels))
