use Rattle.std.proofs.Common.{◌≡◌, false, take}
use Rattle.std.specs.List.{list_any}
use Rattle.wi_protect.specs.Labels.{bypasses_names}
use Rattle.wi_protect.specs.Refusals.{is_taken}
use Rattle.wi_protect.proofs.labels.is_bypass_taken.Given as goal

abbrev pub invariant-loop-i : goal.invariant-loop-i
invariant-loop-i l = list_any (is_taken l.net) (bypasses_names 1 (take l.i l.bypasses)) ≡ false
