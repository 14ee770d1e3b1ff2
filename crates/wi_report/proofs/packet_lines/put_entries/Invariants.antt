use Rattle.std.proofs.Common.{◌≡◌, ◌++◌, drop}
use Rattle.wi_wire.specs.Stacks.{each_entry}
use Rattle.wi_report.specs.Packets.{entry_shown}
use Rattle.wi_report.proofs.packet_lines.put_entries.Given as goal

abbrev pub invariant-loop-i : goal.invariant-loop-i
invariant-loop-i l = l.text ++ each_entry entry_shown (drop l.i l.entries) ≡ l.initial.text ++ each_entry entry_shown l.entries
