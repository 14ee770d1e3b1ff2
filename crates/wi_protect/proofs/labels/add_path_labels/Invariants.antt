use Rattle.std.proofs.Common.{◌≡◌, take}
use Rattle.wi_labels.specs.declared.label.Class.TheVariants.{Smpls}
use Rattle.wi_protect.specs.Labels.{paths_names}
use Rattle.wi_protect.specs.private.Adding.{with_labels}
use Rattle.wi_protect.proofs.labels.add_path_labels.Given as goal

abbrev pub invariant-loop-i : goal.invariant-loop-i
invariant-loop-i l = l.builder ≡ with_labels Smpls l.initial.builder (paths_names 1 (take l.i l.paths))
