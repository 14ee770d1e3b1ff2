use Rattle.std.proofs.Common.{◌≡◌, ◌++◌, drop}
use Rattle.wi_wire.specs.Stacks.{stack_bytes}
use Rattle.wi_wire.proofs.stack.write_stack.Given as goal

abbrev pub invariant-loop-i : goal.invariant-loop-i
invariant-loop-i l = l.bytes.items ++ stack_bytes (drop l.i l.entries) ≡ stack_bytes l.entries
