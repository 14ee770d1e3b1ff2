use Rattle.std.proofs.Common.{◌≡◌, drop}
use Rattle.wi_wire.specs.Values.{entries_of}
use Rattle.wi_wire.proofs.ValueLemmas.{after}
use Rattle.wi_wire.proofs.values.entries_of.Given as goal

abbrev pub invariant-loop-i : goal.invariant-loop-i
invariant-loop-i l = entries_of l.net l.ttl l.header ≡ after l.entries.items (entries_of l.net l.ttl (drop l.i l.header))
