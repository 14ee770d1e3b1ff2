use Rattle.std.proofs.Common.{◌≡◌, false, take}
use Rattle.std.specs.List.{list_any}
use Rattle.wi_protect.specs.Labels.{numbered_to}
use Rattle.wi_protect.specs.Refusals.{is_taken}
use Rattle.wi_protect.proofs.labels.is_numbered_taken.Given as goal

abbrev pub invariant-loop-i : goal.invariant-loop-i
invariant-loop-i l = list_any (is_taken l.net) (take l.i (numbered_to l.letter l.owner l.count)) ≡ false
