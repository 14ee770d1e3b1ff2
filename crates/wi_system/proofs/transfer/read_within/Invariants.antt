use Rattle.std.proofs.Common.{◌≤◌, ◌-◌, vec_len}
use Rattle.std.specs.Io.KnownBytes.{Consumes}
use Rattle.wi_system.proofs.transfer.read_within.Given as goal

abbrev pub invariant-loop-taken : goal.invariant-loop-taken
invariant-loop-taken g l = (vec_len l.bytes ≤ l.limit) × Consumes (g.R.Read.remaining l.initial.from) (g.R.Read.remaining l.from) l.bytes.items

abbrev pub decreases-loop-taken : goal.decreases-loop-taken
decreases-loop-taken g l = l.limit - vec_len l.bytes
