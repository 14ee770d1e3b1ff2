use Rattle.std.proofs.Common.{◌≡◌, drop}
use Rattle.wi_net.specs.Net.{labels_known}
use Rattle.wi_trace.proofs.start.labels_known.Given as goal

abbrev pub invariant-loop-i : goal.invariant-loop-i
invariant-loop-i l = labels_known l.net (drop l.i l.header) ≡ labels_known l.net l.header
