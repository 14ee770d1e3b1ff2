use Rattle.std.proofs.Common.{◌≡◌, ◌++◌, true, length}
use Rattle.std.specs.List.{list_all}
use Rattle.wi_wire.specs.Stacks.{is_entry, upper_bytes}
use Rattle.wi_wire.proofs.stack.read_stack.Given as goal

abbrev pub invariant-loop-entry : goal.invariant-loop-entry
invariant-loop-entry l = record {
  fit : list_all is_entry l.entries.items ≡ true;
  bytes_are : l.bytes ≡ upper_bytes l.entries.items ++ l.rest;
}

abbrev pub decreases-loop-entry : goal.decreases-loop-entry
decreases-loop-entry l = length l.rest
