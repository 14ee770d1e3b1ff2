use Rattle.std.proofs.Common.{◌≡◌, drop}
use Rattle.wi_wire.specs.Values.{labels_of}
use Rattle.wi_wire.proofs.NameLemmas.{over}
use Rattle.wi_wire.proofs.values.labels_of.Given as goal

abbrev pub invariant-loop-i : goal.invariant-loop-i
invariant-loop-i l = labels_of l.net l.entries ≡ over l.labels.items (labels_of l.net (drop l.i l.entries))
